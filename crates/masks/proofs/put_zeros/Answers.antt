-- The range is filled with zeros, and what stands before and behind it stays.
use Rattle.std.proofs.Common.{rules, ◌≡◌, ℕ, length, replicate, ap, ◌∙◌, arith, length-take, length-drop}
use lib.ListN.{length-replicate}
use Rattle.octets.proofs.Places.{put_mid_put}
use Rattle.masks.proofs.put_zeros.Goals as goal

pub returns : goal.returns
returns c =
    let zeros : c.fill.new.self ≡ replicate c.args.n 0 = c.fill.ensures.after (λ y k. search rules) ∙ ap (λ (k : ℕ). replicate k 0) (simp (length-take, length-drop) (omega arith)) in
    rw zeros (put_mid_put c.args.to _ (replicate c.args.n 0) c.args.list.now (length-replicate c.args.n 0 ∙ omega arith))
