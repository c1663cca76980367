-- The bench readings and the example of a call list, computed.
use Rattle.std.proofs.Common.{refl}
use Rattle.basics.specs.Numbers.{last_lsn, last_page}
use Rattle.pageset.specs.Sets.{bit, mask_at, holds, rising, window_forms, normal_form}
use Rattle.rules.specs.Lists.{first, those, all, any}
use Rattle.basics.specs.Orders.{bytes}
use Rattle.rules.specs.Pages.{numbers, pages_in, masked, truncated, minus, span, range_of, built_range}
use Rattle.rules.specs.Forms.{lsn_form, page_form, count_form, bytes_form, name_length, name_form, lasts_from, frames_form, lists_form, segment_form, commit_form, checkpoint_form, entry_form, present_form, sync_form, pending_form, volume_form, tag_form}
use Rattle.rules.specs.Tables.{fits, in_order, get, put, put_all, formed}
use Rattle.rules.specs.Frames.{parts_of, part_of, frame_list, frame_of}
use Rattle.rules.specs.Arguments.{snapshot_lsns, snapshot_order, snapshot_form, commit_lsns, commit_lists}
use Rattle.rules.specs.Write.{write, logs_formed, logs_fit}
use Rattle.rules.specs.Open.{log_named, open_volume}
use Rattle.rules.specs.Snapshots.{snapshot_of, snapshot, is_latest}
use Rattle.rules.specs.Save.{lsn_after, sid_in_use, save}
use Rattle.rules.specs.Sync.{changed, sync}
use Rattle.rules.specs.Walk.{in_range, walk_of}
use Rattle.rules.specs.Search.{entry_in, search_page}
use Rattle.rules.specs.Calls.{does}
use Rattle.rules.specs.Readings.{P1, P2, P3, P4, P5, P6, P7, P8, P9, P10, P11, P12, EightLines, EarlierWins, LaterFound, GivenOnce, Sent, Hidden}

-- P1 to P12
pub readings : P1 × P2 × P3 × P4 × P5 × P6 × P7 × P8 × P9 × P10 × P11 × P12
unfolding last_lsn last_page bit mask_at holds rising window_forms normal_form first those all any bytes numbers pages_in masked truncated minus span range_of built_range lsn_form page_form count_form bytes_form name_length name_form lasts_from frames_form lists_form segment_form commit_form checkpoint_form entry_form present_form sync_form pending_form volume_form tag_form fits in_order get put put_all formed parts_of part_of frame_list frame_of snapshot_lsns snapshot_order snapshot_form commit_lsns commit_lists write logs_formed logs_fit log_named open_volume snapshot_of snapshot is_latest lsn_after sid_in_use save changed sync in_range entry_in search_page does
readings = (refl, refl, refl, (refl, refl, refl), refl, refl, refl, refl, refl, refl, refl, refl)

-- the eight lines
pub eight_lines : EightLines
unfolding last_lsn last_page bit mask_at holds rising window_forms normal_form first those all any bytes numbers pages_in masked truncated minus span range_of built_range lsn_form page_form count_form bytes_form name_length name_form lasts_from frames_form lists_form segment_form commit_form checkpoint_form entry_form present_form sync_form pending_form volume_form tag_form fits in_order get put put_all formed parts_of part_of frame_list frame_of snapshot_lsns snapshot_order snapshot_form commit_lsns commit_lists write logs_formed logs_fit log_named open_volume snapshot_of snapshot is_latest lsn_after sid_in_use save changed sync in_range entry_in search_page does
eight_lines = refl

-- strange paths
pub strange : EarlierWins × LaterFound × GivenOnce
unfolding last_lsn last_page bit mask_at holds rising window_forms normal_form first those all any bytes numbers pages_in masked truncated minus span range_of built_range lsn_form page_form count_form bytes_form name_length name_form lasts_from frames_form lists_form segment_form commit_form checkpoint_form entry_form present_form sync_form pending_form volume_form tag_form fits in_order get put put_all formed parts_of part_of frame_list frame_of snapshot_lsns snapshot_order snapshot_form commit_lsns commit_lists write logs_formed logs_fit log_named open_volume snapshot_of snapshot is_latest lsn_after sid_in_use save changed sync in_range entry_in search_page does walk_of
strange = (refl, refl, refl)

-- T6: a commit at or below the watermark is not unsent
pub sent : Sent
unfolding last_lsn last_page bit mask_at holds rising window_forms normal_form first those all any bytes numbers pages_in masked truncated minus span range_of built_range lsn_form page_form count_form bytes_form name_length name_form lasts_from frames_form lists_form segment_form commit_form checkpoint_form entry_form present_form sync_form pending_form volume_form tag_form fits in_order get put put_all formed parts_of part_of frame_list frame_of snapshot_lsns snapshot_order snapshot_form commit_lsns commit_lists write logs_formed logs_fit log_named open_volume snapshot_of snapshot is_latest lsn_after sid_in_use save changed sync in_range entry_in search_page does
sent = refl

-- T7: the hypothesis is needed
pub hidden : Hidden
unfolding last_lsn last_page bit mask_at holds rising window_forms normal_form first those all any bytes numbers pages_in masked truncated minus span range_of built_range lsn_form page_form count_form bytes_form name_length name_form lasts_from frames_form lists_form segment_form commit_form checkpoint_form entry_form present_form sync_form pending_form volume_form tag_form fits in_order get put put_all formed parts_of part_of frame_list frame_of snapshot_lsns snapshot_order snapshot_form commit_lsns commit_lists write logs_formed logs_fit log_named open_volume snapshot_of snapshot is_latest lsn_after sid_in_use save changed sync in_range entry_in search_page does
hidden = refl
