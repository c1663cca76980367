-- The rules' frame theorem in one record, of a call that the rules speak of, and where nothing changed.
use Rattle.std.proofs.Common.{refl}
use Rattle.rules.specs.Calls.{Tables, Change, does}
use Rattle.rules.proofs.NamedLogs as Logs
use Rattle.rules.proofs.NamedRest as Rest
use Rattle.keeping.specs.Frame.{Keeps}

-- after a call that the rules speak of
pub does_keeps : (t : Tables) (c : Change) → Keeps t c (does t c).1
does_keeps t c = record {
  commit_stays = Logs.commit_stays t c;
  entry_stays = Logs.entry_stays t c;
  checkpoint_stays = Logs.checkpoint_stays t c;
  commit_untouched = Logs.commit_untouched t c;
  entry_untouched = Logs.entry_untouched t c;
  volume_stays = Rest.volume_stays t c;
  volume_untouched = Rest.volume_untouched t c;
  page_stays = Rest.page_stays t c;
  page_untouched = Rest.page_untouched t c;
  tag_untouched = Rest.tag_untouched t c;
}

-- where nothing changed
pub same_keeps : (t : Tables) (c : Change) → Keeps t c t
same_keeps t c = record {
  commit_stays = λ log lsn h. h;
  entry_stays = λ log p lsn h. h;
  checkpoint_stays = λ log lsn h. h;
  commit_untouched = λ log lsn h. refl;
  entry_untouched = λ log p lsn h. refl;
  volume_stays = λ vid v d e. (v, e, record { vid = refl; local = refl; remote = refl; pending = λ x. refl; sync = λ x. refl });
  volume_untouched = λ vid h. refl;
  page_stays = λ sid page h k. k;
  page_untouched = λ sid page h k. refl;
  tag_untouched = λ name h. refl;
}
