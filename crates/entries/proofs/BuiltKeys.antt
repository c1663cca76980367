-- The keys that the code builds: fields stored one after another into zeros, behind the reserved byte.
use Rattle.std.proofs.Common.{◌≡◌, ℕ, ◌-◌, List, ◌∷◌, ◌++◌, length, replicate, ap, ◌∙◌, append_assoc, arith}
use Rattle.octets.specs.Bytes.{bytes_of, down, put}
use Rattle.octets.proofs.Numbers as N
use Rattle.octets.proofs.Places as P
use Rattle.layout.specs.Records.{log_page_lsn_bytes, sid_page_bytes}

module _ (id : List ℕ) (l : length id ≡ 16) where
  pub entry_built : (page lsn : ℕ) (t u v : List ℕ) → t ≡ put 1 id (replicate 29 0) → u ≡ put 17 (bytes_of 4 page) t → v ≡ put 21 (bytes_of 8 (18446744073709551615 - lsn)) u
      → v ≡ log_page_lsn_bytes.spell (id, (page, lsn))
  unfolding log_page_lsn_bytes down
  entry_built page lsn t u v e f g =
      let z : List ℕ = replicate 29 0 in
      let one = P.stored 1 16 id z l e in
      let two = P.then_stored one 4 (bytes_of 4 page) (N.length_bytes_of 4 page) (omega arith) f in
      let three = P.then_stored two 8 (bytes_of 8 (18446744073709551615 - lsn)) (N.length_bytes_of 8 _) (omega arith) g in
      three.bytes ∙ P.put_behind_zero 28 ((id ++ bytes_of 4 page) ++ bytes_of 8 (18446744073709551615 - lsn)) three.long
      ∙ ap (λ r. 0 ∷ r) (append_assoc id (bytes_of 4 page) (bytes_of 8 (18446744073709551615 - lsn)))

  pub present_built : (page : ℕ) (t u : List ℕ) → t ≡ put 1 id (replicate 21 0) → u ≡ put 17 (bytes_of 4 (4294967295 - page)) t → u ≡ sid_page_bytes.spell (id, page)
  unfolding sid_page_bytes down
  present_built page t u e f =
      let z : List ℕ = replicate 21 0 in
      let one = P.stored 1 16 id z l e in
      let two = P.then_stored one 4 (bytes_of 4 (4294967295 - page)) (N.length_bytes_of 4 _) (omega arith) f in
      two.bytes ∙ P.put_behind_zero 20 (id ++ bytes_of 4 (4294967295 - page)) two.long
