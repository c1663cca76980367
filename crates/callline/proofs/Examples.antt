-- Lines and texts of document 01 and at its edges, by computing: what they mean, or 24. Assumes nothing.
use Rattle.std.proofs.Common.{◌≡◌, [], ◌∷◌, refl}
use Rattle.basics.specs.Answers.{refused, done}
use Rattle.callline.specs.Texts.{split, onto, starts, is_text}
use Rattle.callline.specs.Values.{hex_digit, identifier_of, all_digits, spelled, leads, decimal_of, last32, ends_of, range_of, rising, pages_of}
use Rattle.callline.specs.Lines.{Open, Snap, Save, Find, Fetch, Pull, field, end, last_slot, last64, open_of, snap_of, save_of, find_of, fetch_of, pull_of, call_of, meaning}

-- `op=open vid=01 local=0a remote=0b`
opens : meaning (111 ∷ 112 ∷ 61 ∷ 111 ∷ 112 ∷ 101 ∷ 110 ∷ 32 ∷ 118 ∷ 105 ∷ 100 ∷ 61 ∷ 48 ∷ 49 ∷ 32 ∷ 108 ∷ 111 ∷ 99 ∷ 97 ∷ 108 ∷ 61 ∷ 48 ∷ 97 ∷ 32 ∷ 114 ∷ 101 ∷ 109 ∷ 111 ∷ 116 ∷ 101 ∷ 61 ∷ 48 ∷ 98 ∷ []) ≡ done (Open 1 10 11)
unfolding split onto starts is_text hex_digit identifier_of all_digits spelled leads decimal_of ends_of range_of rising pages_of field end open_of snap_of save_of find_of fetch_of pull_of call_of meaning
opens = refl

-- `op=save vid=01 slot=1 count=3 sid=52 pages=2-3`
saves : meaning (111 ∷ 112 ∷ 61 ∷ 115 ∷ 97 ∷ 118 ∷ 101 ∷ 32 ∷ 118 ∷ 105 ∷ 100 ∷ 61 ∷ 48 ∷ 49 ∷ 32 ∷ 115 ∷ 108 ∷ 111 ∷ 116 ∷ 61 ∷ 49 ∷ 32 ∷ 99 ∷ 111 ∷ 117 ∷ 110 ∷ 116 ∷ 61 ∷ 51 ∷ 32 ∷ 115 ∷ 105 ∷ 100 ∷ 61 ∷ 53 ∷ 50 ∷ 32 ∷ 112 ∷ 97 ∷ 103 ∷ 101 ∷ 115 ∷ 61 ∷ 50 ∷ 45 ∷ 51 ∷ []) ≡ done (Save 1 1 3 82 (record { first = 2; last = 3 } ∷ []))
unfolding split onto starts is_text hex_digit identifier_of all_digits spelled leads decimal_of ends_of range_of rising pages_of field end open_of snap_of save_of find_of fetch_of pull_of call_of meaning
saves = refl

-- `op=find slot=2 page=2`
finds : meaning (111 ∷ 112 ∷ 61 ∷ 102 ∷ 105 ∷ 110 ∷ 100 ∷ 32 ∷ 115 ∷ 108 ∷ 111 ∷ 116 ∷ 61 ∷ 50 ∷ 32 ∷ 112 ∷ 97 ∷ 103 ∷ 101 ∷ 61 ∷ 50 ∷ []) ≡ done (Find 2 2)
unfolding split onto starts is_text hex_digit identifier_of all_digits spelled leads decimal_of ends_of range_of rising pages_of field end open_of snap_of save_of find_of fetch_of pull_of call_of meaning
finds = refl

-- `op=fetch log=0b lsn=7 count=9 sid=61 pages=-`
fetches : meaning (111 ∷ 112 ∷ 61 ∷ 102 ∷ 101 ∷ 116 ∷ 99 ∷ 104 ∷ 32 ∷ 108 ∷ 111 ∷ 103 ∷ 61 ∷ 48 ∷ 98 ∷ 32 ∷ 108 ∷ 115 ∷ 110 ∷ 61 ∷ 55 ∷ 32 ∷ 99 ∷ 111 ∷ 117 ∷ 110 ∷ 116 ∷ 61 ∷ 57 ∷ 32 ∷ 115 ∷ 105 ∷ 100 ∷ 61 ∷ 54 ∷ 49 ∷ 32 ∷ 112 ∷ 97 ∷ 103 ∷ 101 ∷ 115 ∷ 61 ∷ 45 ∷ []) ≡ done (Fetch 11 7 9 97 [])
unfolding split onto starts is_text hex_digit identifier_of all_digits spelled leads decimal_of ends_of range_of rising pages_of field end open_of snap_of save_of find_of fetch_of pull_of call_of meaning
fetches = refl

-- `op=pull  vid=01`
two_spaces : meaning (111 ∷ 112 ∷ 61 ∷ 112 ∷ 117 ∷ 108 ∷ 108 ∷ 32 ∷ 32 ∷ 118 ∷ 105 ∷ 100 ∷ 61 ∷ 48 ∷ 49 ∷ []) ≡ refused 24
unfolding split onto starts is_text hex_digit identifier_of all_digits spelled leads decimal_of ends_of range_of rising pages_of field end open_of snap_of save_of find_of fetch_of pull_of call_of meaning
two_spaces = refl

-- `op=pull vid=01 `
space_behind : meaning (111 ∷ 112 ∷ 61 ∷ 112 ∷ 117 ∷ 108 ∷ 108 ∷ 32 ∷ 118 ∷ 105 ∷ 100 ∷ 61 ∷ 48 ∷ 49 ∷ 32 ∷ []) ≡ refused 24
unfolding split onto starts is_text hex_digit identifier_of all_digits spelled leads decimal_of ends_of range_of rising pages_of field end open_of snap_of save_of find_of fetch_of pull_of call_of meaning
space_behind = refl

-- `op=pull vid=0A`
upper_case : meaning (111 ∷ 112 ∷ 61 ∷ 112 ∷ 117 ∷ 108 ∷ 108 ∷ 32 ∷ 118 ∷ 105 ∷ 100 ∷ 61 ∷ 48 ∷ 65 ∷ []) ≡ refused 24
unfolding split onto starts is_text hex_digit identifier_of all_digits spelled leads decimal_of ends_of range_of rising pages_of field end open_of snap_of save_of find_of fetch_of pull_of call_of meaning
upper_case = refl

-- `op=snap vid=01 slot=4`
slot_4 : meaning (111 ∷ 112 ∷ 61 ∷ 115 ∷ 110 ∷ 97 ∷ 112 ∷ 32 ∷ 118 ∷ 105 ∷ 100 ∷ 61 ∷ 48 ∷ 49 ∷ 32 ∷ 115 ∷ 108 ∷ 111 ∷ 116 ∷ 61 ∷ 52 ∷ []) ≡ refused 24
unfolding split onto starts is_text hex_digit identifier_of all_digits spelled leads decimal_of ends_of range_of rising pages_of field end open_of snap_of save_of find_of fetch_of pull_of call_of meaning
slot_4 = refl

-- `5-5`
one_page : pages_of (53 ∷ 45 ∷ 53 ∷ []) ≡ done (record { first = 5; last = 5 } ∷ [])
unfolding split onto starts is_text hex_digit identifier_of all_digits spelled leads decimal_of ends_of range_of rising pages_of
one_page = refl

-- `1-3,4`
touching : pages_of (49 ∷ 45 ∷ 51 ∷ 44 ∷ 52 ∷ []) ≡ done (record { first = 1; last = 3 } ∷ record { first = 4; last = 4 } ∷ [])
unfolding split onto starts is_text hex_digit identifier_of all_digits spelled leads decimal_of ends_of range_of rising pages_of
touching = refl

-- `1-3,3`
overlapping : pages_of (49 ∷ 45 ∷ 51 ∷ 44 ∷ 51 ∷ []) ≡ refused 24
unfolding split onto starts is_text hex_digit identifier_of all_digits spelled leads decimal_of ends_of range_of rising pages_of
overlapping = refl

-- `3-1`
falling : pages_of (51 ∷ 45 ∷ 49 ∷ []) ≡ refused 24
unfolding split onto starts is_text hex_digit identifier_of all_digits spelled leads decimal_of ends_of range_of rising pages_of
falling = refl

-- `0`
page_0 : pages_of (48 ∷ []) ≡ refused 24
unfolding split onto starts is_text hex_digit identifier_of all_digits spelled leads decimal_of ends_of range_of rising pages_of
page_0 = refl

-- an empty text
no_text : pages_of ([]) ≡ refused 24
unfolding split onto starts is_text hex_digit identifier_of all_digits spelled leads decimal_of ends_of range_of rising pages_of
no_text = refl

-- `1-2-3`
three_ends : pages_of (49 ∷ 45 ∷ 50 ∷ 45 ∷ 51 ∷ []) ≡ refused 24
unfolding split onto starts is_text hex_digit identifier_of all_digits spelled leads decimal_of ends_of range_of rising pages_of
three_ends = refl

-- the largest LSN
largest : decimal_of last64 (49 ∷ 56 ∷ 52 ∷ 52 ∷ 54 ∷ 55 ∷ 52 ∷ 52 ∷ 48 ∷ 55 ∷ 51 ∷ 55 ∷ 48 ∷ 57 ∷ 53 ∷ 53 ∷ 49 ∷ 54 ∷ 49 ∷ 53 ∷ []) ≡ done 18446744073709551615
unfolding split onto starts is_text hex_digit identifier_of all_digits spelled leads decimal_of ends_of range_of rising pages_of
largest = refl

-- and one more
too_large : decimal_of last64 (49 ∷ 56 ∷ 52 ∷ 52 ∷ 54 ∷ 55 ∷ 52 ∷ 52 ∷ 48 ∷ 55 ∷ 51 ∷ 55 ∷ 48 ∷ 57 ∷ 53 ∷ 53 ∷ 49 ∷ 54 ∷ 49 ∷ 54 ∷ []) ≡ refused 24
unfolding split onto starts is_text hex_digit identifier_of all_digits spelled leads decimal_of ends_of range_of rising pages_of
too_large = refl

-- `00`
leading_zero : decimal_of last32 (48 ∷ 48 ∷ []) ≡ refused 24
unfolding split onto starts is_text hex_digit identifier_of all_digits spelled leads decimal_of ends_of range_of rising pages_of
leading_zero = refl
