-- The law, call by call: t is a table's bytes before the call and u after it, as its contract has them.
use Rattle.std.proofs.Common.{◌≡◌, ℕ, ◌≤◌, true, ◌&&◌, List, refl}
use mathlib.Core.Option.{Option}
use Rattle.rules.specs.Records.{Id, Name, Pending, Volume, Present, Tag}
use Rattle.rules.specs.Tables.{Table}
use Rattle.rules.specs.Push.{prepare, drop_pending}
use Rattle.rules.specs.Sync.{sync}
use Rattle.rules.specs.Reads.{volume_delete, page_mark, page_remove, pages_remove, tag_delete, tag_replace}
use Rattle.rules.specs.Calls.{Change, deleting_volume, dropping, syncing, preparing, marking, unmarking, unmarking_all, deleting_tag, replacing_tag, empty, does, typed}
use Rattle.rules.proofs.TableLaws.{and_fst, and_snd}
use Rattle.layout.specs.Records.{volume_bytes, present_bytes, tag_bytes}
use Rattle.layout.specs.Tables.{volumes_in, volumes_ok, commits_in, commits_ok, presence_in, presence_ok, tags_in, tags_ok}
use Rattle.layout.specs.Lent.{lent, after}
use Rattle.rows.proofs.Rows.{formed_rules}
use Rattle.rows.proofs.Tables as Layouts
use Rattle.keeping.specs.Frame.{Keeps}
use Rattle.keeping.specs.Stays.{StaysFormed}
use Rattle.keeping.specs.Holding.{volumes_and, volumes_alone, presence_alone, tags_alone}
use Rattle.keeping.proofs.Laws.{keeps}
use Rattle.keeping.proofs.Rules.{delete_room, drop_room, prepare_room, sync_room, mark_room, unmark_room, unmark_all_room, delete_tag_room, replace_tag_room, well_of, volumes_of, presence_of_lem, tags_of, no_volumes, no_commits, no_presence, no_tags}

-- ---- volumes

module _ (t u : List ℕ) (vid : Id) where
  pub delete_keeps : u ≡ after volume_bytes (λ w. w) t (lent (volumes_ok t) (volume_delete (volumes_in t) vid)) → Keeps (volumes_alone (volumes_in t)) (deleting_volume vid) (volumes_alone (volumes_in u)) × StaysFormed volumes_ok t u
  unfolding does typed
  delete_keeps e =
      keeps Layouts.volumes t u (volumes_ok t) (volume_delete (volumes_in t) vid) (λ w. w) volumes_alone (deleting_volume vid) e (λ ok. record {
        lent_formed = ok;
        well = well_of (volumes_in t) (empty 0) (empty 0) (empty 0) (formed_rules Layouts.volumes t ok) no_commits no_presence no_tags;
        types = refl;
        is = refl;
        slot = λ w h. volumes_of w (empty 0) (empty 0) (empty 0) h;
        room = λ x q. delete_room (volumes_in t) vid x q;
      })

  pub drop_keeps : u ≡ after volume_bytes (λ w. w) t (lent (volumes_ok t) (drop_pending (volumes_in t) vid)) → Keeps (volumes_alone (volumes_in t)) (dropping vid) (volumes_alone (volumes_in u)) × StaysFormed volumes_ok t u
  unfolding does typed
  drop_keeps e =
      keeps Layouts.volumes t u (volumes_ok t) (drop_pending (volumes_in t) vid) (λ w. w) volumes_alone (dropping vid) e (λ ok. record {
        lent_formed = ok;
        well = well_of (volumes_in t) (empty 0) (empty 0) (empty 0) (formed_rules Layouts.volumes t ok) no_commits no_presence no_tags;
        types = refl;
        is = refl;
        slot = λ w h. volumes_of w (empty 0) (empty 0) (empty 0) h;
        room = λ x q. drop_room (volumes_in t) vid x q;
      })

  -- commits are read
  module _ (cs : List ℕ) where
    pub sync_keeps : u ≡ after volume_bytes (λ w. w) t (lent (volumes_ok t && commits_ok cs) (sync (volumes_in t) (commits_in cs) vid))
        → Keeps (volumes_and (commits_in cs) (volumes_in t)) (syncing vid) (volumes_and (commits_in cs) (volumes_in u)) × StaysFormed volumes_ok t u
    unfolding does typed
    sync_keeps e =
        keeps Layouts.volumes t u (volumes_ok t && commits_ok cs) (sync (volumes_in t) (commits_in cs) vid) (λ w. w) (volumes_and (commits_in cs)) (syncing vid) e (λ ok.
        let v = and_fst (volumes_ok t) (commits_ok cs) ok in
        record {
          lent_formed = v;
          well = well_of (volumes_in t) (commits_in cs) (empty 0) (empty 0) (formed_rules Layouts.volumes t v) (formed_rules Layouts.commits cs (and_snd (volumes_ok t) (commits_ok cs) ok)) no_presence no_tags;
          types = refl;
          is = refl;
          slot = λ w h. volumes_of w (commits_in cs) (empty 0) (empty 0) h;
          room = λ x q. sync_room (volumes_in t) (commits_in cs) vid x q;
        })

    pub prepare_keeps : (p : Pending) → typed (preparing vid p) ≡ true → u ≡ after volume_bytes (λ w. w) t (lent (volumes_ok t && commits_ok cs) (prepare (volumes_in t) (commits_in cs) vid p))
        → Keeps (volumes_and (commits_in cs) (volumes_in t)) (preparing vid p) (volumes_and (commits_in cs) (volumes_in u)) × StaysFormed volumes_ok t u
    unfolding does
    prepare_keeps p y e =
        keeps Layouts.volumes t u (volumes_ok t && commits_ok cs) (prepare (volumes_in t) (commits_in cs) vid p) (λ w. w) (volumes_and (commits_in cs)) (preparing vid p) e (λ ok.
        let v = and_fst (volumes_ok t) (commits_ok cs) ok in
        record {
          lent_formed = v;
          well = well_of (volumes_in t) (commits_in cs) (empty 0) (empty 0) (formed_rules Layouts.volumes t v) (formed_rules Layouts.commits cs (and_snd (volumes_ok t) (commits_ok cs) ok)) no_presence no_tags;
          types = y;
          is = refl;
          slot = λ w h. volumes_of w (commits_in cs) (empty 0) (empty 0) h;
          room = λ x q. prepare_room (volumes_in t) (commits_in cs) vid p x q;
        })

-- ---- present pages

module _ (t u : List ℕ) (sid : Id) where
  pub mark_keeps : (page : ℕ) → typed (marking sid page) ≡ true → u ≡ after present_bytes (λ w. w) t (lent (presence_ok t) (page_mark (presence_in t) sid page))
      → Keeps (presence_alone (presence_in t)) (marking sid page) (presence_alone (presence_in u)) × StaysFormed presence_ok t u
  unfolding does
  mark_keeps page y e =
      keeps Layouts.presence t u (presence_ok t) (page_mark (presence_in t) sid page) (λ w. w) presence_alone (marking sid page) e (λ ok. record {
        lent_formed = ok;
        well = well_of (empty 0) (empty 0) (presence_in t) (empty 0) no_volumes no_commits (formed_rules Layouts.presence t ok) no_tags;
        types = y;
        is = refl;
        slot = λ w h. presence_of_lem (empty 0) (empty 0) w (empty 0) h;
        room = λ x q. mark_room (presence_in t) sid page x q;
      })

  pub unmark_keeps : (page : ℕ) → u ≡ after present_bytes (λ w. w) t (lent (presence_ok t) (page_remove (presence_in t) sid page))
      → Keeps (presence_alone (presence_in t)) (unmarking sid page) (presence_alone (presence_in u)) × StaysFormed presence_ok t u
  unfolding does typed
  unmark_keeps page e =
      keeps Layouts.presence t u (presence_ok t) (page_remove (presence_in t) sid page) (λ w. w) presence_alone (unmarking sid page) e (λ ok. record {
        lent_formed = ok;
        well = well_of (empty 0) (empty 0) (presence_in t) (empty 0) no_volumes no_commits (formed_rules Layouts.presence t ok) no_tags;
        types = refl;
        is = refl;
        slot = λ w h. presence_of_lem (empty 0) (empty 0) w (empty 0) h;
        room = λ x q. unmark_room (presence_in t) sid page x q;
      })

  pub unmark_all_keeps : (a b : ℕ) → u ≡ after present_bytes (λ w. w) t (lent (presence_ok t) (pages_remove (presence_in t) sid a b))
      → Keeps (presence_alone (presence_in t)) (unmarking_all sid a b) (presence_alone (presence_in u)) × StaysFormed presence_ok t u
  unfolding does typed
  unmark_all_keeps a b e =
      keeps Layouts.presence t u (presence_ok t) (pages_remove (presence_in t) sid a b) (λ w. w) presence_alone (unmarking_all sid a b) e (λ ok. record {
        lent_formed = ok;
        well = well_of (empty 0) (empty 0) (presence_in t) (empty 0) no_volumes no_commits (formed_rules Layouts.presence t ok) no_tags;
        types = refl;
        is = refl;
        slot = λ w h. presence_of_lem (empty 0) (empty 0) w (empty 0) h;
        room = λ x q. unmark_all_room (presence_in t) sid a b x q;
      })

-- ---- tags

module _ (t u : List ℕ) (name : Name) where
  pub delete_tag_keeps : u ≡ after tag_bytes (λ w. w) t (lent (tags_ok t) (tag_delete (tags_in t) name)) → Keeps (tags_alone (tags_in t)) (deleting_tag name) (tags_alone (tags_in u)) × StaysFormed tags_ok t u
  unfolding does typed
  delete_tag_keeps e =
      keeps Layouts.tags t u (tags_ok t) (tag_delete (tags_in t) name) (λ w. w) tags_alone (deleting_tag name) e (λ ok. record {
        lent_formed = ok;
        well = well_of (empty 0) (empty 0) (empty 0) (tags_in t) no_volumes no_commits no_presence (formed_rules Layouts.tags t ok);
        types = refl;
        is = refl;
        slot = λ w h. tags_of (empty 0) (empty 0) (empty 0) w h;
        room = λ x q. delete_tag_room (tags_in t) name x q;
      })

  pub replace_tag_keeps : (vid : Id) → typed (replacing_tag name vid) ≡ true → u ≡ after tag_bytes (λ (p : Option Id × Table Tag). p.1) t (lent (tags_ok t) (tag_replace (tags_in t) name vid))
      → Keeps (tags_alone (tags_in t)) (replacing_tag name vid) (tags_alone (tags_in u)) × StaysFormed tags_ok t u
  unfolding does
  replace_tag_keeps vid y e =
      keeps Layouts.tags t u (tags_ok t) (tag_replace (tags_in t) name vid) (λ p. p.1) tags_alone (replacing_tag name vid) e (λ ok. record {
        lent_formed = ok;
        well = well_of (empty 0) (empty 0) (empty 0) (tags_in t) no_volumes no_commits no_presence (formed_rules Layouts.tags t ok);
        types = y;
        is = refl;
        slot = λ w h. tags_of (empty 0) (empty 0) (empty 0) w h;
        room = λ x q. replace_tag_room (tags_in t) name vid x q;
      })
