-- 24, 22, or the save; its answer, in bytes, spells the snapshot whose head is printed.
use Rattle.std.proofs.Common.{◌^◌, ◌<◌, sym, ap, ◌∙◌, w8, w32, Fits, rules}
use Rattle.rules.specs.Forms.{id_form}
use Rattle.callvalues.proofs.Values.{id_form_lem}
use Rattle.callstep.proofs.Named.{named}
use Rattle.callstep.proofs.Saved.{stays, unset, over, leaves, refuses, saves, typed}
use Rattle.callstep.proofs.calls.save.Goals as goal

pub returns-then-not-is_set : goal.returns-then-not-is_set
returns-then-not-is_set c = let a = c.args in let n = named a.text.now c.page_set-pages.result c.requires.2 c.page_set-pages.ensures in let s = stays a.volumes.now a.commits.now a.checkpoints.now a.index.now a.presence.now a.slots.now _ 24 (unset a.volumes.now a.commits.now a.checkpoints.now a.index.now a.presence.now a.slots.now a.vid a.slot a.count a.sid n.pages (sym c.is_set.ensures ∙ c.if-not-is_set.true)) in record { pages = n.pages; are = n.are; says = c.coded.ensures ∙ s.0; leaves = s.1 }

pub returns-then-number-ne0 : goal.returns-then-number-ne0
returns-then-number-ne0 c = let a = c.args in let n = named a.text.now c.page_set-pages.result c.requires.2 c.page_set-pages.ensures in let s = stays a.volumes.now a.commits.now a.checkpoints.now a.index.now a.presence.now a.slots.now _ _ (over a.volumes.now a.commits.now a.checkpoints.now a.index.now a.presence.now a.slots.now a.vid a.slot a.count a.sid n.pages (sym c.is_set.ensures ∙ c.if-not-is_set.false) _ (n.other c.if-number-ne0.true)) in record { pages = n.pages; are = n.are; says = c.coded-then-number-ne0.ensures ∙ s.0; leaves = s.1 }

pub set_bytes-bytes-requires : goal.set_bytes-bytes-requires
set_bytes-bytes-requires c = let a = c.args in let n = named a.text.now c.page_set-pages.result c.requires.2 c.page_set-pages.ensures in n.form c.if-number-ne0.false

pub returns-then-code-ne0 : goal.returns-then-code-ne0
returns-then-code-ne0 c = let a = c.args in let n = named a.text.now c.page_set-pages.result c.requires.2 c.page_set-pages.ensures in record { pages = n.pages; are = n.are; says = c.coded-then-code-ne0.ensures ∙ refuses a.volumes.now a.commits.now a.checkpoints.now a.index.now a.presence.now a.slots.now a.vid a.slot a.count a.sid n.pages (sym c.is_set.ensures ∙ c.if-not-is_set.false) _ (n.zero c.if-number-ne0.false) c.id_of.result c.id_of-2.result c.held-snapshot.result c.set_bytes-bytes.result c.id_of.ensures c.id_of-2.ensures c.held-snapshot.ensures c.set_bytes-bytes.ensures c.save-code.result _ _ _ _ _ c.save-code.ensures c.if-code-ne0.true; leaves = leaves a.volumes.now a.commits.now a.checkpoints.now a.index.now a.presence.now a.slots.now a.vid a.slot a.count a.sid n.pages (sym c.is_set.ensures ∙ c.if-not-is_set.false) _ (n.zero c.if-number-ne0.false) c.id_of.result c.id_of-2.result c.held-snapshot.result c.set_bytes-bytes.result c.id_of.ensures c.id_of-2.ensures c.held-snapshot.ensures c.set_bytes-bytes.ensures c.save-code.result _ _ _ _ _ c.save-code.ensures }

pub returns : goal.returns
returns c =
    let count_fits : c.args.count < 2 ^ 32 = let f : Fits w32 c.args.count = search rules in f.fits in
    let sid_fits : c.args.sid < 256 = let f : Fits w8 c.args.sid = search rules in f.fits in
    let a = c.args in let n = named a.text.now c.page_set-pages.result c.requires.2 c.page_set-pages.ensures in record { pages = n.pages; are = n.are; says = saves a.volumes.now a.commits.now a.checkpoints.now a.index.now a.presence.now a.slots.now a.vid a.slot a.count a.sid n.pages (sym c.is_set.ensures ∙ c.if-not-is_set.false) _ (n.zero c.if-number-ne0.false) c.id_of.result c.id_of-2.result c.held-snapshot.result c.set_bytes-bytes.result c.id_of.ensures c.id_of-2.ensures c.held-snapshot.ensures c.set_bytes-bytes.ensures c.save-code.result _ _ _ _ _ c.save-code.ensures c.if-code-ne0.false (typed a.count c.id_of-2.result (count_fits) (ap id_form c.id_of-2.ensures ∙ id_form_lem a.sid (sid_fits))) _ c.snapshot_head.ensures; leaves = leaves a.volumes.now a.commits.now a.checkpoints.now a.index.now a.presence.now a.slots.now a.vid a.slot a.count a.sid n.pages (sym c.is_set.ensures ∙ c.if-not-is_set.false) _ (n.zero c.if-number-ne0.false) c.id_of.result c.id_of-2.result c.held-snapshot.result c.set_bytes-bytes.result c.id_of.ensures c.id_of-2.ensures c.held-snapshot.ensures c.set_bytes-bytes.ensures c.save-code.result _ _ _ _ _ c.save-code.ensures }
