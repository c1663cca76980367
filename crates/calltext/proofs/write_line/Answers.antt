-- `write_line` meets its contract: a buffer too short, or the parts of the line, each where the one before it ends. Assumes nothing.
use native.Mathlib.Omega.{arith}
use mathlib.Core.Path.{refl}
use borrow.Author.Tests.{lt-ltb, le-ltb}
use lib.ListN.{length}
use Rattle.calltext.specs.Says.{head_says}
use Rattle.calltext.proofs.PrintLaws.{printed}
use Rattle.calltext.proofs.write_line.Goals as goal

pub returns-then-out-lt-LINE_ROOM : goal.returns-then-out-lt-LINE_ROOM
returns-then-out-lt-LINE_ROOM c = record { out_after = rw (lt-ltb (length c.args.out.now) 96 (omega arith)) refl; value = rw (lt-ltb (length c.args.out.now) 96 (omega arith)) refl }

pub put_decimal-requires : goal.put_decimal-requires
put_decimal-requires c = omega (arith, c.if-out-lt-LINE_ROOM.false, c.store_all.auto.s, c.put_decimal-a.auto.out, c.store_all-2.auto.s, c.put_decimal-b.auto.out, c.store_all-3.auto.s, c.put_decimal-a.ensures.1, c.put_decimal-a.ensures.2, c.put_decimal-b.ensures.1, c.put_decimal-b.ensures.2)

pub returns : goal.returns
returns c = let a = c.args in
    let e = le-ltb (length a.out.now) 96 (omega (arith, c.if-out-lt-LINE_ROOM.false)) in
    let whole = printed a.out.now a.number a.code (head_says a.head) (omega (arith, c.if-out-lt-LINE_ROOM.false)) _ _ _ _ _ _ _ _ _ _ _ _ _ c.store_all.ensures c.put_decimal-a.ensures.0 (c.put_decimal-a.ensures.1, c.put_decimal-a.ensures.2) c.store_all-2.ensures c.put_decimal-b.ensures.0 (c.put_decimal-b.ensures.1, c.put_decimal-b.ensures.2) c.store_all-3.ensures c.put_log-d.ensures.0 c.put_log-d.ensures.1 c.store_all-4.ensures c.put_decimal.ensures.0 (c.put_decimal.ensures.1, c.put_decimal.ensures.2) c.lsn_of.ensures in
    record { out_after = rw e whole.0; value = rw e whole.1 }
