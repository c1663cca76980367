-- Small tables by computation: present pages of one segment, pages going down, and what is no table of them.
use Rattle.std.proofs.Common.{◌≡◌, ℕ, true, false, List, [], ◌∷◌, ◌++◌, replicate, refl}
use Rattle.octets.specs.Bytes.{be, bytes_of, down, part}
use Rattle.octets.specs.Order.{order, then_by, lex}
use Rattle.basics.specs.Numbers.{last_page}
use Rattle.rules.specs.Lists.{all}
use Rattle.rules.specs.Forms.{bytes_form, page_form, present_form}
use Rattle.table.specs.Table.{runs, count_of, cap_of, recs, well_ordered}
use Rattle.layout.specs.Codecs.{spelled, in_form}
use Rattle.layout.specs.Records.{sid_page_bytes, present_bytes}
use Rattle.layout.specs.Tables.{formed_in, table_in, presence_in, presence_ok}

-- a segment, and the row of one of its pages: a reserved byte, the segment, the page's complement
abbrev sid : List ℕ
sid = replicate 16 9

abbrev row : ℕ → ℕ → List ℕ
row reserved last = reserved ∷ (sid ++ 255 ∷ 255 ∷ 255 ∷ last ∷ [])

-- pages 7 and 3, and a byte that is no row
abbrev two : List ℕ
two = 0 ∷ 2 ∷ (row 0 248 ++ row 0 252 ++ 5 ∷ [])

is_table : presence_ok two ≡ true
unfolding formed_in well_ordered count_of cap_of recs runs be part bytes_of down order then_by lex all in_form spelled sid_page_bytes present_bytes present_form bytes_form page_form last_page
is_table = refl

its_table : presence_in two ≡ record { room = 2; rows = record { sid = sid; page = 7 } ∷ record { sid = sid; page = 3 } ∷ [] }
unfolding table_in count_of recs runs be part sid_page_bytes present_bytes
its_table = refl

-- not in key order, a reserved byte that is not 0, page 0
wrong_order : presence_ok (0 ∷ 2 ∷ (row 0 252 ++ row 0 248)) ≡ false
unfolding formed_in well_ordered count_of cap_of recs runs be part order then_by lex sid_page_bytes present_bytes
wrong_order = refl

wrong_byte : presence_ok (0 ∷ 1 ∷ row 1 248) ≡ false
unfolding formed_in well_ordered count_of cap_of recs runs be part bytes_of down order then_by lex all in_form spelled sid_page_bytes present_bytes
wrong_byte = refl

wrong_page : presence_ok (0 ∷ 1 ∷ row 0 255) ≡ false
unfolding formed_in well_ordered count_of cap_of recs runs be part bytes_of down order then_by lex all in_form spelled sid_page_bytes present_bytes present_form bytes_form page_form last_page
wrong_page = refl
