-- The three lent tables of commits: where all are formed each is, and so are the rules' tables that they hold.
use Rattle.std.proofs.Common.{◌≡◌, ℕ, true, ◌&&◌, List}
use Rattle.rules.specs.Write.{logs_formed}
use Rattle.rules.proofs.TableLaws.{and_fst, and_snd, and_both}
use Rattle.layout.specs.Tables.{commits_ok, checkpoints_ok, index_ok}
use Rattle.rows.proofs.Rows.{formed_rules}
use Rattle.rows.proofs.Tables.{commits, checkpoints, index}
use Rattle.writecalls.specs.Written.{logs_in, logs_ok}

module _ (cs ks es : List ℕ) (ok : logs_ok cs ks es ≡ true) where
  pub each_ok : (commits_ok cs ≡ true) × (checkpoints_ok ks ≡ true) × (index_ok es ≡ true)
  unfolding logs_ok
  each_ok =
      let f : commits_ok cs && checkpoints_ok ks ≡ true = and_fst (commits_ok cs && checkpoints_ok ks) (index_ok es) ok in
      (and_fst (commits_ok cs) (checkpoints_ok ks) f, and_snd (commits_ok cs) (checkpoints_ok ks) f, and_snd (commits_ok cs && checkpoints_ok ks) (index_ok es) ok)

  pub logs_formed_lem : logs_formed (logs_in cs ks es) ≡ true
  unfolding logs_formed
  logs_formed_lem = and_both (and_both (formed_rules commits cs each_ok.0) (formed_rules checkpoints ks each_ok.1)) (formed_rules index es each_ok.2)
