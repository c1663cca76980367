-- The lines of a call list and what they mean. A line not in this form is 24.
use Rattle.std.specs.Prelude.{ℕ, Bool, cond, List, [], ◌∷◌, length, drop, nat_le}
use Rattle.basics.specs.Answers.{Answer, refused, done, ask, ◌>>=◌, ◌>>◌}
use Rattle.callline.specs.Texts.{Text, split, starts, is_text}
use Rattle.callline.specs.Values.{Range, malformed, last32, identifier_of, decimal_of, pages_of}

-- a call with its values: an identifier by its last byte, pages by their ranges
pub data Call : Type 0 where
  Open : (vid near far : ℕ) → Call
  Snap : (vid slot : ℕ) → Call
  Save : (vid slot count sid : ℕ) (pages : List Range) → Call
  Find : (slot page : ℕ) → Call
  Fetch : (log lsn count sid : ℕ) (pages : List Range) → Call
  Pull : (vid : ℕ) → Call

-- the next word is a key with `=` and a value; what follows has the value and the words after it
unfoldable pub field : {A B : Type 0} → Text → (Text → Answer A) → (A → List Text → Answer B) → List Text → Answer B
field key value then [] = refused malformed
field key value then (w ∷ ws) = do
  ask (starts key w) malformed
  v ← value (drop (length key) w)
  then v ws

-- no word is left
unfoldable pub end : {B : Type 0} → B → List Text → Answer B
end b [] = done b
end b (w ∷ ws) = refused malformed

-- the keys, each with its `=`
abbrev pub vid= : Text
vid= = 118 ∷ 105 ∷ 100 ∷ 61 ∷ []

abbrev pub local= : Text
local= = 108 ∷ 111 ∷ 99 ∷ 97 ∷ 108 ∷ 61 ∷ []

abbrev pub remote= : Text
remote= = 114 ∷ 101 ∷ 109 ∷ 111 ∷ 116 ∷ 101 ∷ 61 ∷ []

abbrev pub slot= : Text
slot= = 115 ∷ 108 ∷ 111 ∷ 116 ∷ 61 ∷ []

abbrev pub count= : Text
count= = 99 ∷ 111 ∷ 117 ∷ 110 ∷ 116 ∷ 61 ∷ []

abbrev pub sid= : Text
sid= = 115 ∷ 105 ∷ 100 ∷ 61 ∷ []

abbrev pub pages= : Text
pages= = 112 ∷ 97 ∷ 103 ∷ 101 ∷ 115 ∷ 61 ∷ []

abbrev pub page= : Text
page= = 112 ∷ 97 ∷ 103 ∷ 101 ∷ 61 ∷ []

abbrev pub log= : Text
log= = 108 ∷ 111 ∷ 103 ∷ 61 ∷ []

abbrev pub lsn= : Text
lsn= = 108 ∷ 115 ∷ 110 ∷ 61 ∷ []

-- slots 0 to 3 hold snapshots
abbrev pub last_slot : ℕ
last_slot = 3

-- the largest LSN
abbrev pub last64 : ℕ
last64 = 18446744073709551615

-- op=open vid= local= remote=
unfoldable pub open_of : List Text → Answer Call
open_of = field vid= identifier_of λ vid. field local= identifier_of λ near. field remote= identifier_of λ far. end (Open vid near far)

-- op=snap vid= slot=
unfoldable pub snap_of : List Text → Answer Call
snap_of = field vid= identifier_of λ vid. field slot= (decimal_of last_slot) λ slot. end (Snap vid slot)

-- op=save vid= slot= count= sid= pages=
unfoldable pub save_of : List Text → Answer Call
save_of = field vid= identifier_of λ vid. field slot= (decimal_of last_slot) λ slot. field count= (decimal_of last32) λ count. field sid= identifier_of λ sid. field pages= pages_of λ pages. end (Save vid slot count sid pages)

-- op=find slot= page=
unfoldable pub find_of : List Text → Answer Call
find_of = field slot= (decimal_of last_slot) λ slot. field page= (decimal_of last32) λ page. end (Find slot page)

-- op=fetch log= lsn= count= sid= pages=
unfoldable pub fetch_of : List Text → Answer Call
fetch_of = field log= identifier_of λ log. field lsn= (decimal_of last64) λ lsn. field count= (decimal_of last32) λ count. field sid= identifier_of λ sid. field pages= pages_of λ pages. end (Fetch log lsn count sid pages)

-- op=pull vid=
unfoldable pub pull_of : List Text → Answer Call
pull_of = field vid= identifier_of λ vid. end (Pull vid)

-- the first words
abbrev pub op=open : Text
op=open = 111 ∷ 112 ∷ 61 ∷ 111 ∷ 112 ∷ 101 ∷ 110 ∷ []

abbrev pub op=snap : Text
op=snap = 111 ∷ 112 ∷ 61 ∷ 115 ∷ 110 ∷ 97 ∷ 112 ∷ []

abbrev pub op=save : Text
op=save = 111 ∷ 112 ∷ 61 ∷ 115 ∷ 97 ∷ 118 ∷ 101 ∷ []

abbrev pub op=find : Text
op=find = 111 ∷ 112 ∷ 61 ∷ 102 ∷ 105 ∷ 110 ∷ 100 ∷ []

abbrev pub op=fetch : Text
op=fetch = 111 ∷ 112 ∷ 61 ∷ 102 ∷ 101 ∷ 116 ∷ 99 ∷ 104 ∷ []

abbrev pub op=pull : Text
op=pull = 111 ∷ 112 ∷ 61 ∷ 112 ∷ 117 ∷ 108 ∷ 108 ∷ []

-- the first word names the call, and the others are its keys in the order shown
unfoldable pub call_of : List Text → Answer Call
call_of [] = refused malformed
call_of (w ∷ ws) =
    cond (is_text op=open w) (open_of ws)
    (cond (is_text op=snap w) (snap_of ws)
    (cond (is_text op=save w) (save_of ws)
    (cond (is_text op=find w) (find_of ws)
    (cond (is_text op=fetch w) (fetch_of ws)
    (cond (is_text op=pull w) (pull_of ws)
    (refused malformed))))))

-- a line is at most 256 bytes: words with one space between
unfoldable pub meaning : Text → Answer Call
meaning line = do
  ask (nat_le (length line) 256) malformed
  call_of (split 32 line)
