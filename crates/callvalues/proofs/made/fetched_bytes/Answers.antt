-- What was made is laid out, and its bytes fill the array, whatever its LSN.
use Rattle.std.proofs.Common.{get_or, arith, w8, w32, w64, Fits, rules}
use Rattle.pageset.specs.Sets.{shown}
use Rattle.rules.specs.Records.{Commit}
use Rattle.layout.specs.Codecs.{Holds}
use Rattle.layout.specs.Records.{commit_bytes}
use Rattle.setbytes.proofs.LaidLaws.{shown_form}
use Rattle.callvalues.specs.Values.{fetched}
use Rattle.layout.proofs.PlaceLaws.{id_form_lem}
use Rattle.callvalues.proofs.Fetched.{fetched_held, made_laid, made_bytes}
use Rattle.callvalues.proofs.made.fetched_bytes.Goals as goal

pub commit_write-requires : goal.commit_write-requires
commit_write-requires c =
    let it : Commit = fetched c.args.log c.args.lsn.0 c.args.count.0 c.args.sid (shown c.args.set) in
    record { at_in_bounds = omega arith; x_value = made_laid (it) c.fetched_commit-c.result c.fetched_commit-c.ensures }

pub returns : goal.returns
returns c =
    let it : Commit = fetched c.args.log c.args.lsn.0 c.args.count.0 c.args.sid (shown c.args.set) in
    let holds : Holds commit_bytes (it) = let l : Fits w64 c.args.lsn.0 = search rules in
    let n : Fits w32 c.args.count.0 = search rules in
    fetched_held c.args.log c.args.lsn.0 c.args.count.0 c.args.sid (shown c.args.set)
    (id_form_lem c.args.log (search rules) (λ j. let f : Fits w8 (get_or c.args.log j 0) = search rules in f.fits))
    (let h = l.fits in omega arith)
    (let h = n.fits in omega arith)
    (id_form_lem c.args.sid (search rules) (λ j. let f : Fits w8 (get_or c.args.sid j 0) = search rules in f.fits))
    (shown_form c.args.set c.requires) in
    made_bytes (it) c.fetched_commit-c.result c.fetched_commit-c.ensures (holds) _ c.commit_write.ensures
