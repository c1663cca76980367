-- One commit is met next, and one path is left: the record that is met is that of the path's first commit, which stands at one place, and what is left is said outright.
use Rattle.std.proofs.Common.{◌≡◌, ℕ, ◌+◌, true, List, ◌∷◌, get_or, sym, refl, ap, ◌∙◌, ap₂, Some}
use mathlib.Core.Option.{some}
use Rattle.rules.specs.Records.{Commit}
use Rattle.rules.specs.Walk.{path_commits}
use Rattle.volume.specs.Snapshots.{no_range}
use Rattle.layout.specs.Tables.{commits_in, commits_ok}
use Rattle.commits.specs.Places.{commit_at}
use Rattle.commits.proofs.OnePlace.{one_place}
use Rattle.paths.specs.Left.{Meets, lowered_at, leading, left_says}
use Rattle.paths.specs.declared.Left.{Left}
use Rattle.paths.specs.declared.Met.{Met}

-- the place of a record is its record's place
at_one : (t : List ℕ) → commits_ok t ≡ true → (l : Left) (m n : Met) → Meets t l m → Meets t l n → m.row ≡ n.row
at_one t ok l m n h k =
    let e : commit_at t m.row ≡ commit_at t n.row = cc (h.here, k.here) in
    let p : Some m.row ≡ Some n.row = one_place t ok (some (commit_at t n.row)) (Some m.row) (Some n.row) (record { says = ap some e; inside = h.inside }) (record { says = refl; inside = k.inside }) in
    cc

-- what is left below a commit of that LSN, from a range on
left_as : Left → ℕ → ℕ → Left
left_as l i lsn = record { path = lowered_at (get_or l.path i no_range) i lsn l.path; at = i; len = l.len }

left_as_lem : (t : List ℕ) (l : Left) (m : Met) → Meets t l m → m.left ≡ left_as l (l.at + leading (commits_in t) (left_says l)) (commit_at t m.row).lsn
unfolding left_as
left_as_lem t l m h =
    let i : m.left.at ≡ l.at + leading (commits_in t) (left_says l) = ap (λ (x : Left). x.at) h.left_is in
    h.left_is ∙ ap (λ (j : ℕ). record { path = lowered_at (get_or l.path j no_range) j (commit_at t m.row).lsn l.path; at = l.at + leading (commits_in t) (left_says l); len = l.len }) i

pub one_met : (t : List ℕ) → commits_ok t ≡ true → (l : Left) (m n : Met) → Meets t l m → Meets t l n → m ≡ n
one_met t ok l m n h k =
    let r : m.row ≡ n.row = at_one t ok l m n h k in
    let e : m.left ≡ n.left = left_as_lem t l m h ∙ ap (λ (i : ℕ). left_as l (l.at + leading (commits_in t) (left_says l)) (commit_at t i).lsn) r ∙ sym (left_as_lem t l n k) in
    ap₂ (λ (i : ℕ) (x : Left). record { row = i; left = x }) r e
