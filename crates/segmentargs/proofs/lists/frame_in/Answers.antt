-- The run is that of frame k, and the set of its span is the rules' span. Assumes nothing.
use Rattle.segmentargs.proofs.ListLaws.{set_fine, made_frame}
use Rattle.segmentargs.proofs.lists.frame_in.Goals as goal

pub span-pages-requires : goal.span-pages-requires
span-pages-requires c = let r = c.run_in-run in record { s_value = set_fine c.args.b.now c.args.at c.requires.1 c.args.k r.result r.ensures c.set_read.result c.set_read.ensures; a_nonzero = r.ensures.1 }

pub returns : goal.returns
returns c =
    let r = c.run_in-run in
    made_frame c.args.b.now c.args.at c.requires.1 c.args.k r.result r.ensures c.set_read.result c.set_read.ensures _ _ c.load_id-sid.ensures c.span-pages.ensures
