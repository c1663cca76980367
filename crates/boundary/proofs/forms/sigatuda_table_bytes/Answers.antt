-- The size of the table's records is asked; where there is none, or too many records are wanted, there are no bytes. 2 + 65,535 * 722 fits. Assumes nothing.
use Rattle.std.proofs.Common.{arith}
use Rattle.boundary.proofs.FormatLaws.{bytes_fit, no_table, too_many, with_room}
use Rattle.boundary.proofs.forms.sigatuda_table_bytes.Goals as goal

pub returns-then-size-eq0 : goal.returns-then-size-eq0
returns-then-size-eq0 c = no_table _ _ _ c.sigatuda_record_size-size.ensures c.if-size-eq0.true

pub returns-then-records-gt65535 : goal.returns-then-records-gt65535
returns-then-records-gt65535 c = too_many _ _ _ c.sigatuda_record_size-size.ensures c.if-size-eq0.false c.if-records-gt65535.true

pub overflow_mul-result : goal.overflow_mul-result
overflow_mul-result c = omega (arith, bytes_fit _ _ _ c.sigatuda_record_size-size.ensures c.if-records-gt65535.false)

pub overflow_add-result : goal.overflow_add-result
overflow_add-result c = omega (arith, bytes_fit _ _ _ c.sigatuda_record_size-size.ensures c.if-records-gt65535.false)

pub returns : goal.returns
returns c = with_room _ _ _ c.sigatuda_record_size-size.ensures c.if-size-eq0.false c.if-records-gt65535.false
