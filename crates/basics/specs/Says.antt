-- What each answer of the code says: document 01's number, or the value under 0; what each key of the code is; and an LSN as the code holds it.
use Rattle.std.specs.Prelude.{ℕ, List, take, Option as Maybe, Some, None, Result, Ok, Err}
use Rattle.std.proofs.Math.Option.{Option, none, some}
use Rattle.basics.specs.Answers.{Answer, refused, done}
use Rattle.basics.specs.Refusals.{number_of}
use Rattle.basics.specs.declared.lsn.Lsn.{Lsn}
use Rattle.basics.specs.declared.pageidx.PageIdx.{PageIdx}
use Rattle.basics.specs.declared.refusal.Refusal.{Refusal}
use Rattle.basics.specs.declared.logref.LogRef.{LogRef}
use Rattle.basics.specs.declared.keys.PageVersion.{PageVersion}
use Rattle.basics.specs.declared.keys.PageKey.{PageKey}
use Rattle.basics.specs.declared.keys.TagName.{TagName}

-- an LSN as the code holds it
abbrev pub lsn_laid : ℕ → Lsn
lsn_laid n = record { 0 = n }

abbrev pub lsn_says : Result Lsn Refusal → Answer ℕ
lsn_says (Err r) = refused (number_of r)
lsn_says (Ok n) = done n.0

abbrev pub maybe_lsn_says : Result (Maybe Lsn) Refusal → Answer (Option ℕ)
maybe_lsn_says (Err r) = refused (number_of r)
maybe_lsn_says (Ok None) = done none
maybe_lsn_says (Ok (Some n)) = done (some n.0)

abbrev pub page_says : Result PageIdx Refusal → Answer ℕ
page_says (Err r) = refused (number_of r)
page_says (Ok p) = done p.0

abbrev pub maybe_page_says : Maybe PageIdx → Option ℕ
maybe_page_says (Some p) = some p.0
maybe_page_says None = none

-- a commit's or a checkpoint's key: log, LSN
abbrev pub log_ref_key : LogRef → List ℕ × ℕ
log_ref_key k = (k.log, k.lsn.0)

-- an index entry's key: log, page, LSN
abbrev pub page_version_key : PageVersion → List ℕ × (ℕ × ℕ)
page_version_key k = (k.log, (k.pageidx.0, k.lsn.0))

-- a present page's key: segment, page
abbrev pub page_key : PageKey → List ℕ × ℕ
page_key k = (k.sid, k.pageidx.0)

-- a tag's key: the first `len` of its bytes, and all of them where `len` is above their number
abbrev pub tag_key : TagName → List ℕ
tag_key t = take t.len t.bytes
