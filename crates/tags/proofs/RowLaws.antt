-- What the code makes of a name and a volume: the key's bytes and the tag's bytes, each by stores over zeros; and that the tag is in form.
use Rattle.std.proofs.Common.{◌≡◌, ℕ, suc, ◌+◌, ◌-◌, ◌≤◌, true, leb, List, [], ◌∷◌, ◌++◌, length, drop, replicate, sym, refl, ap, ◌∙◌, ap₂, append_assoc, append-nil, arith, length-append, take_at, drop_at, eq-eqb, leb-true}
use lib.ListN.{length-replicate, replicate-append-replicate}
use Rattle.octets.specs.Bytes.{bytes_of, put, AreBytes, part}
use Rattle.octets.proofs.Numbers.{length_bytes_of}
use Rattle.octets.proofs.Places.{put_all}
use Rattle.rules.specs.Forms.{name_length, name_form, bytes_form, id_form, tag_form}
use Rattle.rules.proofs.TableLaws.{and_fst, and_snd, and_both}
use Rattle.layout.specs.Records.{tag_of, tag_bytes}
use Rattle.layout.proofs.PlaceLaws.{all_bytes, pair_stored, behind}
use Rattle.tags.specs.Lookups.{key_bytes}

-- ---- a name

pub name_long : (name : List ℕ) → name_length name ≡ true → (1 ≤ length name) × (length name ≤ 32)
unfolding name_length
name_long name h =
    (leb-true 1 (length name) (and_fst (leb 1 (length name)) (leb (length name) 32) h), leb-true (length name) 32 (and_snd (leb 1 (length name)) (leb (length name) 32) h))

-- a store over as many bytes of a list
put_over : (a b c d : List ℕ) (n : ℕ) → length a ≡ n → length c ≡ length b → put n b (a ++ (c ++ d)) ≡ a ++ (b ++ d)
unfolding put
put_over a b c d n la lc =
    let l : length (a ++ c) ≡ n + length b = length-append a c ∙ ap₂ ◌+◌ la lc in
    ap₂ (λ (x y : List ℕ). x ++ (b ++ y)) (take_at a (c ++ d) n la) (ap (drop (n + length b)) (sym (append_assoc a c d)) ∙ drop_at (a ++ c) d (n + length b) l)

-- the key of a name
pub key_made : (name k j : List ℕ) → name_length name ≡ true → k ≡ put 1 name (replicate 34 0) → j ≡ put 33 (bytes_of 1 (length name)) k → j ≡ key_bytes.spell name
key_made name k j h p q =
    let n : ℕ = length name in
    let l = name_long name h in
    let zs : List ℕ = replicate (32 - n) 0 in
    let e33 : 32 - n + 1 ≡ 33 - n = omega arith in
    let e34 : n + (33 - n) ≡ 33 = omega arith in
    let front : List ℕ = 0 ∷ (name ++ zs) in
    let lf : length front ≡ 33 = ap suc (length-append name zs ∙ ap (λ (m : ℕ). n + m) (length-replicate (32 - n) 0)) ∙ omega arith in
    let start : ◌≡◌ {A = List ℕ} (replicate 34 0) ((0 ∷ []) ++ (replicate n 0 ++ replicate (33 - n) 0)) =
    ap (λ (b : List ℕ). 0 ∷ b) (ap (λ (m : ℕ). replicate {A = ℕ} m 0) (sym e34) ∙ sym (replicate-append-replicate n (33 - n) 0)) in
    let ends : ◌≡◌ {A = List ℕ} (replicate (33 - n) 0) (zs ++ (0 ∷ [])) = ap (λ (m : ℕ). replicate {A = ℕ} m 0) (sym e33) ∙ sym (replicate-append-replicate (32 - n) 1 0) in
    let named : k ≡ front ++ ((0 ∷ []) ++ []) =
    p ∙ ap (put 1 name) start ∙ put_over (0 ∷ []) name (replicate n 0) (replicate (33 - n) 0) 1 refl (length-replicate n 0)
    ∙ ap (λ (b : List ℕ). 0 ∷ (name ++ b)) ends
    ∙ ap (λ (b : List ℕ). 0 ∷ b) (sym (append_assoc name zs (0 ∷ []))) in
    q ∙ ap (put 33 (bytes_of 1 n)) named ∙ put_over front (bytes_of 1 n) (0 ∷ []) [] 33 lf (sym (length_bytes_of 1 n))
    ∙ ap (λ (b : List ℕ). front ++ b) (append-nil (bytes_of 1 n))

length_key : (name : List ℕ) → name_length name ≡ true → length (key_bytes.spell name) ≡ 34
length_key name h =
    let l = name_long name h in
    let zs : List ℕ = replicate (32 - length name) 0 in
    ap suc (length-append (name ++ zs) (bytes_of 1 (length name)) ∙ ap₂ ◌+◌ (length-append name zs ∙ ap (λ (m : ℕ). length name + m) (length-replicate (32 - length name) 0)) (length_bytes_of 1 (length name)))
    ∙ omega arith

-- ---- a tag

-- its bytes: the key, and behind it the volume
pub row_made : (name vid key r j : List ℕ) → name_length name ≡ true → length vid ≡ 16 → key ≡ key_bytes.spell name → r ≡ put 0 key (replicate 50 0) → j ≡ put 34 vid r
    → j ≡ tag_bytes.spell (tag_of (name, vid))
unfolding tag_bytes
row_made name vid key r j h lv e p q =
    let lk = length_key name h in
    let ks : List ℕ = key_bytes.spell name in
    pair_stored 0 34 ks vid (replicate 50 0) r j (omega arith) (omega (arith, length-replicate {A = ℕ} 50 0)) (p ∙ ap (λ (b : List ℕ). put 0 b (replicate 50 0)) e) q
    ∙ put_all (ks ++ vid) (replicate 50 0) (length-append ks vid ∙ omega (arith, length-replicate {A = ℕ} 50 0))

-- it is in form
pub tag_named : (name vid : List ℕ) → name_length name ≡ true → AreBytes name → id_form vid ≡ true → tag_form (tag_of (name, vid)) ≡ true
unfolding tag_form name_form
tag_named name vid h bn f = and_both (and_both h (all_bytes name bn)) f

pub tag_good : (name vid : List ℕ) → name_length name ≡ true → AreBytes name → length vid ≡ 16 → AreBytes vid → tag_form (tag_of (name, vid)) ≡ true
unfolding bytes_form
tag_good name vid h bn lv bv = tag_named name vid h bn (and_both (eq-eqb (length vid) 16 lv) (all_bytes vid bv))

-- the volume that the bytes of a tag name
pub vid_read : (s : List ℕ) (at bt : ℕ) → at + 34 ≡ bt → (tag_bytes.read (part at 50 s)).vid ≡ part bt 16 s
unfolding tag_bytes
vid_read s at bt e = behind s at 34 16 bt e
