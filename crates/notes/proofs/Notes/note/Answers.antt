-- The mark is set in every case. A window in its place is told from there; a window without a mark has no page that is held, and takes its place; of a window that was met and is not in its
-- place nothing is told. The laws of notes have each case.
use Rattle.std.proofs.Common.{◌≡◌, length, sym, ◌∙◌, rules}
use Rattle.notes.proofs.NoteLaws.{told_here, noted_here, noted_nowhere, told_free, noted_free}
use Rattle.notes.proofs.Notes.note.Goals as goal

pub returns-then-self-at : goal.returns-then-self-at
returns-then-self-at c =
    let a = c.args in
    let p : length a.self.now.tags ≡ 64 = search rules in
    let m : length a.self.now.masks ≡ 64 = search rules in
    let w : length a.self.now.marks ≡ 64 = search rules in
    λ held k. (told_here held a.index a.mask a.self.now p m w k c.if-self-at.true, noted_here held a.index a.mask a.self.now p m w k c.if-self-at.true)

pub returns-then-marked : goal.returns-then-marked
returns-then-marked c =
    let a = c.args in
    let p : length a.self.now.tags ≡ 64 = search rules in
    let m : length a.self.now.masks ≡ 64 = search rules in
    let w : length a.self.now.marks ≡ 64 = search rules in
    λ held k. (tt, noted_nowhere held a.index a.mask a.self.now p m w k c.if-self-at.false)

pub returns : goal.returns
returns c =
    let a = c.args in
    let p : length a.self.now.tags ≡ 64 = search rules in
    let m : length a.self.now.masks ≡ 64 = search rules in
    let w : length a.self.now.marks ≡ 64 = search rules in
    let e = sym c.has_bit-marked.ensures ∙ c.if-marked.false in
    λ held k. (told_free held a.index a.mask a.self.now p m w k e, noted_free held a.index a.mask a.self.now p m w k e)
