pub mod Block
pub mod Bodies
pub mod Boundary
pub mod Device
pub mod Fits
pub mod Group
pub mod GroupFront
pub mod HeadText
pub mod Ring
pub mod Stop
pub use Rattle.model_log.specs.Block.{block_view, data_of, fits_checksum, fits_number, is_first, is_full, is_length, length_of, blocks_between, framed, length_at, IsAtDataStart, block_number, block_of, data_before, lsn_at, lsn_of, sn_of, start_after, turn_of}
unfoldable pub use Rattle.model_log.specs.Block.{block_text, is_block_at, read_block, with_checksum}
pub use Rattle.model_log.specs.Bodies.{IsAfterType, IsBody, IsLength, IsPlace, IsRecord, IsShort, IsSpot, IsString, IsValue}
pub use Rattle.model_log.specs.Boundary.{IsBoundaryBlock, IsGivenTo, crossing_end, ends_in, IsDataLsn}
unfoldable pub use Rattle.model_log.specs.Boundary.{content_at, first_at, stream_between}
pub use Rattle.model_log.specs.Device.{is_checkpoint, newer, newest_checkpoint, place_of, header_block, layout_of, log_device_length, other_tail, place_in, ring_start, round_of, run_layout, sector_at, format_of, good_head, has_sizes_of, head_among, head_of, run_format, shape_of}
unfoldable pub use Rattle.model_log.specs.Device.{checkpoint_text, read_checkpoint, log_block, read_head}
pub use Rattle.model_log.specs.Ring.{IsInRound, IsLayout, IsTailPlace, sector_of}
pub use Rattle.model_log.specs.Fits.{GroupFits, IsPage, IsUserWrite, RecordFits, user_end}
pub use Rattle.model_log.specs.Stop.{fit_of, AreFull, IsStop, cause_at, misfit_of}
pub use Rattle.model_log.specs.Group.{IsFront, IsGroup, IsGroupText, IsUnfinished, end_mark, group_length, groups_of, HasItsLength, IsBoundary, IsRunOf, IsTiled, Span, last_span_end, span_of, spans_of, HasSpelling, HasText, IsByte, IsWidth, after_type, page_of, type_of, value_text}
pub use Rattle.model_log.specs.GroupFront.{BeginsWithGroup, GivesGroup}
unfoldable pub use Rattle.model_log.specs.Group.{group_text, stream_of, record_text, single_text}
unfoldable pub use Rattle.model_log.specs.HeadText.{head_text}
