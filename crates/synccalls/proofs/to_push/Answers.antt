-- Its LSNs count, they fit, and its hash is 32 bytes.
use Rattle.std.proofs.Common.{◌≡◌, ℕ, get_or, refl, w8, w64, Fits, rules}
use Rattle.synccalls.proofs.Ends.{pending_good}
use Rattle.synccalls.proofs.to_push.Goals as goal

pub returns : goal.returns
returns c =
    let l : Fits w64 c.args.local.0 = search rules in
    let m : Fits w64 c.args.commit.0 = search rules in
    record {
      value = refl;
      form = pending_good c.args.local.0 c.args.commit.0 c.args.hash c.requires l.fits m.fits (search rules) (λ j. let f : Fits w8 (get_or c.args.hash j 0) = search rules in f.fits);
    }
