pub mod Count
pub mod Crc32c
pub mod Field
pub mod Lending
pub mod Limits
pub mod Lines
pub mod Number
pub mod Spelled
pub mod Spelling
pub mod Table
pub use Rattle.model_base.specs.Count.{HasRisen, last_count}
pub use Rattle.model_base.specs.Crc32c.{all_ones, polynomial}
unfoldable pub use Rattle.model_base.specs.Crc32c.{after_bit, after_byte, after_eight_bits, crc_of, register_after}
pub use Rattle.model_base.specs.Field.{field, padded_to, overwritten}
pub use Rattle.model_base.specs.Limits.{IsWholeSectors, IsWithinLimits, default_shape, frame_length, has_early_sizes, has_sizes, is_page_size, is_within_limits, IsEarly, run_shape, space_limit, user_length}
unfoldable pub use Rattle.model_base.specs.Limits.{IsPageSize}
pub use Rattle.model_base.specs.Lines.{fed_lines, onto_first, without_return}
unfoldable pub use Rattle.model_base.specs.Lines.{lines_of}
pub use Rattle.model_base.specs.Number.{number_from_bytes}
pub use Rattle.model_base.specs.Spelled.{BeginsWith, Gives, IsFrontOf, Spells32, Spells64}
unfoldable pub use Rattle.model_base.specs.Spelling.{spelling32, spelling64}
pub use Rattle.model_base.specs.Table.{BeginsNone, HasAllFrom, IsRow, IsRowOf, SpellsIn}
