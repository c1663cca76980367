-- What save asks of lent bytes: of the tables, one after another; of the arguments, in the order 1, 2, 3. Where all is well each test holds.
use Rattle.std.proofs.Common.{◌≡◌, ℕ, Bool, true, false, ◌&&◌, eqb, List, length, sym, refl, ap, ◌∙◌, arith, eq-eqb, ne_eqb, eqb-true}
use Rattle.octets.specs.Bytes.{part}
use Rattle.octets.proofs.Places.{part_whole}
use Rattle.basics.specs.Answers.{Answer, done, code, ask, ◌>>◌}
use Rattle.pageset.specs.declared.PageSet.{PageSet}
use Rattle.pageset.specs.Sets.{shown, normal, normal_form}
use Rattle.rules.specs.Arguments.{snapshot_lsns, snapshot_order}
use Rattle.rules.proofs.TableLaws.{and_fst, and_snd}
use Rattle.layout.specs.Codecs.{in_form}
use Rattle.layout.specs.Values.{set_bytes, snapshot_bytes}
use Rattle.layout.specs.Tables.{volumes_ok, commits_ok, checkpoints_ok, index_ok, presence_ok}
use Rattle.layout.proofs.HoldLaws.{in_form_lem}
use Rattle.volume.specs.Snapshots.{snapshot_says, laid}
use Rattle.volume.specs.declared.snapshot.Snapshot.{Snapshot as CodeSnapshot}
use Rattle.arguments.specs.Snapshots.{snapshot_in, snapshot_formed}
use Rattle.arguments.proofs.SnapshotLaws.{snapshot_size, arg_says}
use Rattle.arguments.proofs.SetLaws.{set_size}
use Rattle.setbytes.specs.Laid.{set_laid}
use Rattle.setbytes.proofs.LaidLaws.{laid_normal, says_laid}
use Rattle.writecalls.specs.Written.{logs_ok}
use Rattle.writecalls.proofs.Formed.{each_ok}
use Rattle.savecalls.specs.Saving.{set_formed, save_ok, arguments_in}

-- ---- 20

module _ (vs cs ks es ps : List ℕ) where
  -- all five
  pub record Formed : Type 0 where
    pub volumes : volumes_ok vs ≡ true
    pub logs : logs_ok cs ks es ≡ true
    pub commits : commits_ok cs ≡ true
    pub checkpoints : checkpoints_ok ks ≡ true
    pub index : index_ok es ≡ true
    pub presence : presence_ok ps ≡ true

  pub formed : save_ok vs cs ks es ps ≡ true → Formed
  unfolding save_ok
  formed e =
      let v = and_fst (volumes_ok vs && logs_ok cs ks es) (presence_ok ps) e in
      let l = and_snd (volumes_ok vs) (logs_ok cs ks es) v in
      let f = each_ok cs ks es l in
      record { volumes = and_fst (volumes_ok vs) (logs_ok cs ks es) v; logs = l; commits = f.0; checkpoints = f.1; index = f.2; presence = and_snd (volumes_ok vs && logs_ok cs ks es) (presence_ok ps) e }

-- ---- a set

module _ (b : List ℕ) where
  pub set_short : (length b ≡ 385 → ⊥) → false ≡ set_formed b
  unfolding set_formed
  set_short h = sym (ap (λ (t : Bool). t && in_form set_bytes normal_form b) (ap (eqb (length b)) set_size ∙ ne_eqb (length b) 385 h))

  pub set_whole : length b ≡ 385 → in_form set_bytes normal_form (part 0 385 b) ≡ set_formed b
  unfolding set_formed
  set_whole e =
      ap (in_form set_bytes normal_form) (part_whole 385 b e)
      ∙ sym (ap (λ (t : Bool). t && in_form set_bytes normal_form b) (ap (eqb (length b)) set_size ∙ eq-eqb (length b) 385 e))

  module _ (e : set_formed b ≡ true) where
    pub set_long : length b ≡ 385
    unfolding set_formed
    set_long = eqb-true (length b) set_bytes.size (and_fst (eqb (length b) set_bytes.size) (in_form set_bytes normal_form b) e) ∙ set_size

    pub set_normal : normal_form (set_bytes.read b) ≡ true
    unfolding set_formed
    set_normal = (in_form_lem set_bytes normal_form b (and_snd (eqb (length b) set_bytes.size) (in_form set_bytes normal_form b) e)).1

    -- the set by value that is read of it
    pub set_laid_lem : (s : PageSet) → s ≡ set_laid (set_bytes.read (part 0 385 b)) → (normal s ≡ true) × (shown s ≡ set_bytes.read b)
    set_laid_lem s h =
        let q : s ≡ set_laid (set_bytes.read b) = h ∙ ap (λ (x : List ℕ). set_laid (set_bytes.read x)) (part_whole 385 b set_long) in
        (ap normal q ∙ laid_normal (set_bytes.read b) set_normal, ap shown q ∙ says_laid (set_bytes.read b))

-- ---- 1, 2, 3

chain : Bool → Bool → Bool → Bool → Bool → Answer (Unit {0})
chain a b c d e = ask a 1 >> (ask b 2 >> (ask c 3 >> (ask d 3 >> ask e 3)))

module _ (b p : List ℕ) (n : ℕ) where
  is_chain : arguments_in b p n ≡ chain (snapshot_lsns (snapshot_in b)) (snapshot_order (snapshot_in b)) (snapshot_formed b) (set_formed p) (eqb n snapshot_bytes.size)
  unfolding arguments_in chain
  is_chain = refl

  module _ (s : CodeSnapshot) (es : s ≡ laid (snapshot_in b)) where
    pub zero_lsn : false ≡ snapshot_lsns (snapshot_says s) → 1 ≡ code (arguments_in b p n)
    unfolding chain
    zero_lsn e = sym (ap code (is_chain ∙ ap (λ (x : Bool). chain x (snapshot_order (snapshot_in b)) (snapshot_formed b) (set_formed p) (eqb n snapshot_bytes.size)) (ap snapshot_lsns (sym (arg_says b s es)) ∙ sym e)))

    module _ (one : true ≡ snapshot_lsns (snapshot_says s)) where
      past_1 : arguments_in b p n ≡ chain true (snapshot_order (snapshot_in b)) (snapshot_formed b) (set_formed p) (eqb n snapshot_bytes.size)
      past_1 = is_chain ∙ ap (λ (x : Bool). chain x (snapshot_order (snapshot_in b)) (snapshot_formed b) (set_formed p) (eqb n snapshot_bytes.size)) (ap snapshot_lsns (sym (arg_says b s es)) ∙ sym one)

      pub start_above : false ≡ snapshot_order (snapshot_says s) → 2 ≡ code (arguments_in b p n)
      unfolding chain
      start_above e = sym (ap code (past_1 ∙ ap (λ (x : Bool). chain true x (snapshot_formed b) (set_formed p) (eqb n snapshot_bytes.size)) (ap snapshot_order (sym (arg_says b s es)) ∙ sym e)))

      module _ (two : true ≡ snapshot_order (snapshot_says s)) where
        past_2 : arguments_in b p n ≡ chain true true (snapshot_formed b) (set_formed p) (eqb n snapshot_bytes.size)
        past_2 = past_1 ∙ ap (λ (x : Bool). chain true x (snapshot_formed b) (set_formed p) (eqb n snapshot_bytes.size)) (ap snapshot_order (sym (arg_says b s es)) ∙ sym two)

        pub no_snapshot : false ≡ snapshot_formed b → 3 ≡ code (arguments_in b p n)
        unfolding chain
        no_snapshot e = sym (ap code (past_2 ∙ ap (λ (x : Bool). chain true true x (set_formed p) (eqb n snapshot_bytes.size)) (sym e)))

        module _ (three : true ≡ snapshot_formed b) where
          pub no_set : false ≡ set_formed p → 3 ≡ code (arguments_in b p n)
          unfolding chain
          no_set e = sym (ap code (past_2 ∙ ap (λ (x : Bool). chain true true x (set_formed p) (eqb n snapshot_bytes.size)) (sym three) ∙ ap (λ (x : Bool). chain true true true x (eqb n snapshot_bytes.size)) (sym e)))

          module _ (four : true ≡ set_formed p) where
            past_3 : arguments_in b p n ≡ chain true true true true (eqb n snapshot_bytes.size)
            past_3 = past_2 ∙ ap (λ (x : Bool). chain true true x (set_formed p) (eqb n snapshot_bytes.size)) (sym three) ∙ ap (λ (x : Bool). chain true true true x (eqb n snapshot_bytes.size)) (sym four)

            pub no_place : (n ≡ 262 → ⊥) → 3 ≡ code (arguments_in b p n)
            unfolding chain
            no_place h = sym (ap code (past_3 ∙ ap (chain true true true true) (ap (eqb n) snapshot_size ∙ ne_eqb n 262 h)))

            pub all_good : n ≡ 262 → 0 ≡ code (arguments_in b p n)
            unfolding chain
            all_good h = sym (ap code (past_3 ∙ ap (chain true true true true) (ap (eqb n) snapshot_size ∙ eq-eqb n 262 h)))

  -- what 0 says
  pub record Good : Type 0 where
    pub lsns : snapshot_lsns (snapshot_in b) ≡ true
    pub order : snapshot_order (snapshot_in b) ≡ true
    pub set : set_formed p ≡ true
    pub place : n ≡ 262
    pub done_with : arguments_in b p n ≡ done tt

  five : (v w x y z : Bool) → 0 ≡ code (chain v w x y z) → (v ≡ true) × (w ≡ true) × (x ≡ true) × (y ≡ true) × (z ≡ true)
  unfolding chain
  five true true true true true e = (refl, refl, refl, refl, refl)
  five false w x y z e = absurd (omega arith)
  five true false x y z e = absurd (omega arith)
  five true true false y z e = absurd (omega arith)
  five true true true false z e = absurd (omega arith)
  five true true true true false e = absurd (omega arith)

  pub good : 0 ≡ code (arguments_in b p n) → Good
  unfolding chain
  good e =
      let f = five (snapshot_lsns (snapshot_in b)) (snapshot_order (snapshot_in b)) (snapshot_formed b) (set_formed p) (eqb n snapshot_bytes.size) (e ∙ ap code is_chain) in
      record {
        lsns = f.0;
        order = f.1;
        set = f.3;
        place = eqb-true n snapshot_bytes.size f.4 ∙ snapshot_size;
        done_with = is_chain ∙ rw (f.0, f.1, f.2, f.3, f.4);
      }
