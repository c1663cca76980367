-- 20, then 1, 2 and 3 of the snapshot, then the number of its commits: 19 where that is more than the list has places, else they are put. Assumes nothing.
use Rattle.std.proofs.Common.{sym, ap, ◌∙◌, arith}
use Rattle.basics.specs.Refusals.{number_of, code_of}
use Rattle.basics.proofs.RefusalLaws.{refusal_counts}
use Rattle.layout.specs.Records.{commit_bytes}
use Rattle.layout.proofs.LentLaws.{lent_no}
use Rattle.resultlists.proofs.EntryLaws.{slots_room}
use Rattle.resultlists.proofs.AnswerLaws.{left_refused}
use Rattle.arguments.proofs.SnapshotLaws.{arg_few}
use Rattle.listcalls.proofs.PathLaws.{commits_refused, commits_short, commits_put}
use Rattle.arguments.specs.declared.Reply.{Reply}
use Rattle.listcalls.proofs.snapshot_commits.Goals as goal

pub returns-then-not-commits_formed : goal.returns-then-not-commits_formed
returns-then-not-commits_formed c = left_refused commit_bytes _ _ _ 20 (lent_no _ _ (sym c.commits_formed.ensures ∙ c.if-not-commits_formed.true))

pub returns-in-Err : goal.returns-in-Err
returns-in-Err c = ap (λ (r : Reply). (r, (c.args.list.now, c.args.items.now))) c.refused.ensures ∙ commits_refused c.args.commits.now (sym c.commits_formed.ensures ∙ c.if-not-commits_formed.false) c.args.snapshot.now (number_of c.in-Err.refusal) (sym (ap code_of c.in-Err.is) ∙ c.snapshot_given.ensures) c.args.list.now c.args.items.now (refusal_counts c.in-Err.refusal)

pub count_commits-n-requires : goal.count_commits-n-requires
count_commits-n-requires c = ((sym c.commits_formed.ensures ∙ c.if-not-commits_formed.false), omega (arith, arg_few c.args.snapshot.now c.snapshot_arg-s.result c.snapshot_arg-s.ensures))

pub returns-then-list-n : goal.returns-then-list-n
returns-then-list-n c = commits_short c.args.commits.now (sym c.commits_formed.ensures ∙ c.if-not-commits_formed.false) c.args.snapshot.now _ c.snapshot_given.ensures c.args.list.now c.args.items.now (ap code_of c.in_default.is) c.snapshot_arg-s.result c.snapshot_arg-s.ensures c.count_commits-n.result c.count_commits-n.ensures.0 c.if-list-n.true

pub put_commits-requires : goal.put_commits-requires
put_commits-requires c =
    let room = slots_room 722 c.count_commits-n.result c.args.list.now c.if-list-n.false in
    ((sym c.commits_formed.ensures ∙ c.if-not-commits_formed.false), arg_few c.args.snapshot.now c.snapshot_arg-s.result c.snapshot_arg-s.ensures, omega (arith, c.count_commits-n.ensures.0))

pub overflow_cast-items : goal.overflow_cast-items
overflow_cast-items c =
    let few = arg_few c.args.snapshot.now c.snapshot_arg-s.result c.snapshot_arg-s.ensures in
    omega (arith, c.count_commits-n.ensures.1)

pub returns : goal.returns
returns c = commits_put c.args.commits.now (sym c.commits_formed.ensures ∙ c.if-not-commits_formed.false) c.args.snapshot.now _ c.snapshot_given.ensures c.args.list.now c.args.items.now (ap code_of c.in_default.is) c.snapshot_arg-s.result c.snapshot_arg-s.ensures c.count_commits-n.result c.count_commits-n.ensures.0 c.if-list-n.false _ c.put_commits.ensures
