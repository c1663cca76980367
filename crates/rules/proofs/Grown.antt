-- Tables grown from fresh ones are well formed and have the exact index, so on them search and the walk keep their promise.
use Rattle.std.proofs.Common.{◌≡◌, ℕ, true}
use Rattle.basics.specs.Numbers.{counts}
use Rattle.rules.specs.Records.{Snapshot}
use Rattle.rules.specs.Tables.{commits_formed, index_formed}
use Rattle.rules.specs.Write.{logs_formed}
use Rattle.rules.specs.Calls.{Tables, well_formed}
use Rattle.rules.specs.Demand.{Exact, valid, Demand3}
use Rattle.rules.specs.Grown.{Grown, from_fresh, by_call}
use Rattle.rules.proofs.TableLaws.{and_fst, and_snd}
use Rattle.rules.proofs.Demand.{demand3}
use Rattle.rules.proofs.Kept.{kept}
use Rattle.rules.proofs.Index.{fresh_formed, fresh_exact, exact_kept}

-- T2 for any number of calls
pub grown_formed : (t : Tables) → Grown t → well_formed t ≡ true
grown_formed t (from_fresh v c k e p g) = fresh_formed v c k e p g
grown_formed t (by_call u c h y l) = kept u c y (grown_formed u h)

pub grown_exact : (t : Tables) → Grown t → Exact t.logs.commits t.logs.index
grown_exact t (from_fresh v c k e p g) = fresh_exact v c k e p g
grown_exact t (by_call u c h y l) = exact_kept u c (grown_exact u h) l

-- T1 on grown tables
pub grown_demand3 : (t : Tables) (s : Snapshot) (p : ℕ) → Grown t → valid s ≡ true → counts p ≡ true → Demand3 t.logs.commits t.logs.index s p
unfolding well_formed logs_formed
grown_demand3 t s p h v pos =
    let w = grown_formed t h in
    let c : commits_formed t.logs.commits ≡ true = search (and_fst, and_snd) in
    let e : index_formed t.logs.index ≡ true = search (and_fst, and_snd) in
    demand3 t.logs.commits t.logs.index s p c e v pos (grown_exact t h)
