pub mod ActorProgram
pub mod Archiving
pub mod Changes
pub mod FailureCodes
pub mod Fitting
pub mod Hands
pub mod Lanes
pub mod Later
pub mod Layout
pub mod ListOrder
pub mod LogPrograms
pub mod NamedTurn
pub mod NamedWords
pub mod NewActors
pub mod Packing
pub mod PagePrograms
pub mod Program
pub mod ReaderProgram
pub mod Reserving
pub mod Setups
pub mod Sides
pub mod States
pub mod Stream
pub mod UserProgram
pub mod Writes
pub use Rattle.model_core.specs.ActorProgram.{after_of, checked_of, code_of, has_taken, heard, old_of, oldest_in, IsArchiveCode, archive_device_code, data_device_code, log_device_code, no_memory_code}
pub use Rattle.model_core.specs.FailureCodes.{IsDataCode, IsLogCode}
pub use Rattle.model_core.specs.States.{Actor, Batch, Blocks, Lent, Nothing, Room, Advance, BatchPage, CheckpointerState, CleanerState, CloserState, FlusherState, Given, Line, LoadedMarks, ReaderState, UserState, WriterState, no_advance, none_loaded, CellWrite, Entry, KeptPage, PageChange, end_of}
pub use Rattle.model_core.specs.LogPrograms.{advance_next, advance_op, advance_took, ends, frees, loaded_tail, slot_at, stays_put, tail_at, closer_ending, closer_op, closer_program, closer_took, closer_waits, flusher_ending, flusher_op, flusher_program, flusher_took, flusher_waits, finds_no_more, full_blocks, has_log_space, has_whole_word, read_place, stands_outside, tail_after, word_end, writer_ending, writer_op, writer_program, writer_took, writer_waits}
pub use Rattle.model_core.specs.Hands.{advance_holds, ChecksWithoutTail, HasHolder, advance_of, checkpointer_holds, flusher_holds, holds, reader_holds, holds_tail, writer_holds, GivesFailed, HoldsNothing, IsFreeOp, IsFreeToCheck, StoresFailed, checkpointer_hand, cleaner_hand, closer_holds_tail, flusher_hand, hand, reader_hand, user_hand, user_holds_tail, writer_hand, writer_holds_tail}
pub use Rattle.model_core.specs.Fitting.{PageFitting, cleaner_fits, closer_fits, user_page_fits, advance_fits, answer_limit, user_fits, writer_fits, AnswerFits}
pub use Rattle.model_core.specs.Archiving.{HasLost, IsLosing, LostAt}
pub use Rattle.model_core.specs.Changes.{after_from, cell_where_same, change_on, changed_cells, changes_of, line_of}
pub use Rattle.model_core.specs.Writes.{value_at, writes}
unfoldable pub use Rattle.model_core.specs.Changes.{collected}
pub use Rattle.model_core.specs.PagePrograms.{candidate, checkpointer_ending, checkpointer_op, checkpointer_program, checkpointer_took, checkpointer_waits, is_above, lowered, cleaner_ending, cleaner_op, cleaner_program, cleaner_took, cleaner_waits, end_round, finds_none, first_of_batch, next_in_round, no_page, page_loaded}
pub use Rattle.model_core.specs.Program.{Listed, appended, oldest_end, without, Core, DataServed, LogServed, OwnServed, list_word, answer_of, list_answer, lists_left, word_found, words_after, words_left, checked, entries_from, entry, filled, Fills, is_checking, lent, next, own_op, own_took, took, step_of}
pub use Rattle.model_core.specs.ListOrder.{Each, Relaxed, oldest_of}
pub use Rattle.model_core.specs.Stream.{IsBound, IsLent, Tiles, byte_at, crosses, crossing, first_of, stream, sum_of}
pub use Rattle.model_core.specs.Lanes.{cell_of, lane_of, left_in_word, ceiling, floor, is_held, tail_of, tail_word}
pub use Rattle.model_core.specs.Packing.{frame_bytes, framed_page, byte_in}
unfoldable pub use Rattle.model_core.specs.Packing.{lane}
unfoldable pub use Rattle.model_core.specs.Lanes.{lanes, packed, lsn}
pub use Rattle.model_core.specs.Layout.{PageWords, SharedWords, cells_at, ckpt_at, closed_links_at, firsts_at, flat, flat_page_words, flushed_at, frame_words, index, page_stride, pages_at, rows, sn_at, write_at, wtail_at, failed_at, places_at}
pub use Rattle.model_core.specs.NamedWords.{IsSized, blank_words, page_words_at, IsWord, read, with_page_words, word_count, wrote}
pub use Rattle.model_core.specs.NewActors.{new_checkpointer, new_cleaner, new_closer, new_flusher, new_reader, new_user, new_writer}
pub use Rattle.model_core.specs.Reserving.{entries, log_left, phase_log}
pub use Rattle.model_core.specs.ReaderProgram.{AreInFront, archived, archives, block_end, Filling, followed, has_all, is_none, IsText, joined_texts, next_block, next_mark, next_piece, pending, placed_at, read_to, reader_ending, reader_op, reader_program, reader_took, reader_waits, to_append}
pub use Rattle.model_core.specs.Setups.{IsScripted, layout_of, Setup, StartPageWords, StartWords, start_checkpoint}
pub use Rattle.model_core.specs.UserProgram.{after_link, answered, can_close, can_link, cells_of, change_at, changes, copy_place, current_page, frame_count, frame_word, group_bytes, group_end, has_passed, has_room, has_space, is_whole, line, line_at, mode, next_bytes, next_count, next_puts, put_lanes, put_of, same_word, stored_word, to_next_page, user_advanced, user_ending, user_op, user_program, user_took, user_waits, with_close_room, with_link_room, with_mark, without_close_room, without_link_room, word_step}
pub use Rattle.model_core.specs.NamedTurn.{OnWord, OpWords, after, found, shared_answer, shared_left}
pub use Rattle.model_core.specs.Later.{IsSameActor}
pub use Rattle.model_core.specs.Sides.{DataSide, LogSide}
