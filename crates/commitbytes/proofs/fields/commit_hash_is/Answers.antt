-- A hash that is there is compared byte by byte. Assumes nothing.
use Rattle.std.proofs.Common.{◌≡◌, ℕ, ◌+◌, List, length, sym, ap, ◌∙◌, rules}
use mathlib.Core.Option.{Option}
use Rattle.octets.specs.Bytes.{part}
use Rattle.octets.specs.Order.{lex, is_equal}
use Rattle.octets.proofs.Places.{part_whole}
use Rattle.rules.specs.Records.{Hash}
use Rattle.rules.specs.Push.{is_hash}
use Rattle.rules.proofs.Facts.{id_is}
use Rattle.commitbytes.proofs.CommitLaws.{hash_none, hash_there}
use Rattle.commitbytes.proofs.fields.commit_hash_is.Goals as goal

pub returns-then-load8-eq0 : goal.returns-then-load8-eq0
returns-then-load8-eq0 c =
    let a = c.args in
    sym (ap (λ (h : Option Hash). is_hash h a.hash) (hash_none a.s.now a.at (sym c.load8.ensures ∙ c.if-load8-eq0.true)))

pub returns : goal.returns
returns c =
    let whole : part 0 32 c.args.hash ≡ c.args.hash = let l : length c.args.hash ≡ 32 = search rules in part_whole 32 c.args.hash l in
    let a = c.args in
    c.same.ensures
    ∙ ap (λ (h : List ℕ). is_equal (lex (part (a.at + 30) 32 a.s.now) h)) (whole)
    ∙ id_is (part (a.at + 30) 32 a.s.now) a.hash
    ∙ sym (ap (λ (h : Option Hash). is_hash h a.hash) (hash_there a.s.now a.at (λ e. c.if-load8-eq0.false (c.load8.ensures ∙ e))))
