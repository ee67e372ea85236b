-- What the fields of a user stand for.
use Rattle.std.specs.Prelude.{length, ℕ, ◌+◌, ◌<◌, ◌≡◌}
use Rattle.model_core.specs.{answer_limit, cells_of, changes, group_bytes, group_end, line_at, UserState}
use Rattle.model_core.specs.declared.steps.UserStep.{UserStep}
use Rattle.model_core.specs.declared.steps.UserStep.TheVariants as user_step
use Rattle.redo_link.specs.{LeadsToLsn}
use Rattle.redo_useractor.specs.Places.{IsNextCell}
use Rattle.redo_useractor.specs.Written.{words_end}
use Rattle.redo_useractor.specs.declared.actor.UserActor.TheInside.{Inside}

abbrev pub user_view : Inside → UserState
user_view u = record {
  user = u.user;
  blocks = u.blocks;
  keeps = u.book.keeps;
  lines = u.book.lines;
  starts = u.book.starts;
  k = u.book.k;
  start = u.start;
  copied = u.copied;
  page = u.page;
  cell = u.cell;
  word = u.word;
  loaded = u.loaded;
  advance = u.advance;
  code = u.code;
  checks = u.checks;
  step = u.step;
}

-- A group in hand ends below this: what a user hears of an answer is at most one more than the number in it.
abbrev pub end_limit : ℕ
end_limit = answer_limit + 1

-- a line is left, and no group is in hand
pub record BeforeGroup (u : Inside) : Type 0 where
  pub line : u.book.k < length u.book.lines
  pub none : length u.book.starts ≡ u.book.k

-- the group of a line is in hand, and ends at an sn
pub record HasGroup (u : Inside) : Type 0 where
  pub line : u.book.k < length u.book.lines
  pub small : group_end (user_view u) < end_limit
  pub one : length u.book.starts ≡ u.book.k + 1

-- no line is left, and no group is in hand
pub record AfterAll (u : Inside) : Type 0 where
  pub all : u.book.k ≡ length u.book.lines
  pub none : length u.book.starts ≡ u.book.k

-- it is at one of the group's pages
abbrev pub IsAtPage : Inside → Type 0
IsAtPage u = u.page < length (changes (user_view u))

-- it is at the first of them, if there is one
abbrev pub IsAtFirst : Inside → Type 0
IsAtFirst u = (u.page ≡ 0) × (u.cell ≡ 0)

-- it is at the word in which the next changed cell lies
abbrev pub IsAtWord : Inside → Type 0
IsAtWord u = IsNextCell (cells_of (user_view u)) u.at.word u.at.count u.cell × (u.at.word < words_end)

abbrev pub IsAt : Inside → UserStep → Type 0
IsAt u user_step.LoadCheckpoint = BeforeGroup u
IsAt u user_step.LoadSn = BeforeGroup u
IsAt u user_step.TakeLatch = BeforeGroup u × IsAtPage u
IsAt u user_step.Reserve = BeforeGroup u
IsAt u user_step.LoadWrite = HasGroup u × IsAtFirst u × (u.copied < length (group_bytes (user_view u)))
IsAt u user_step.AddCell = HasGroup u × IsAtFirst u × (u.copied < length (group_bytes (user_view u)))
IsAt u user_step.StoreFirst = HasGroup u × IsAtFirst u
IsAt u user_step.LoadWtail = HasGroup u × IsAtFirst u
IsAt u (user_step.AdvanceWritten s) = HasGroup u × IsAtFirst u × LeadsToLsn u.advance s
IsAt u user_step.ReloadWtail = HasGroup u × IsAtFirst u
IsAt u user_step.StoreLink = HasGroup u × IsAtFirst u
IsAt u user_step.LoadCtail = HasGroup u × IsAtPage u × (u.cell ≡ 0)
IsAt u (user_step.AdvanceClosed s) = HasGroup u × IsAtPage u × (u.cell ≡ 0) × LeadsToLsn u.advance s
IsAt u user_step.ReloadCtail = HasGroup u × IsAtPage u × (u.cell ≡ 0)
IsAt u user_step.LoadFrame = HasGroup u × IsAtPage u × IsAtWord u
IsAt u user_step.StoreFrame = HasGroup u × IsAtPage u × IsAtWord u
IsAt u user_step.StoreClosedLink = HasGroup u × (0 < length (changes (user_view u)))
IsAt u user_step.AwaitMark = HasGroup u
IsAt u user_step.Done = AfterAll u
IsAt u user_step.Failed = Unit {0}
IsAt u _ = HasGroup u × IsAtPage u

pub record IsUser (u : Inside) : Type 0 where
  pub ckpt : u.loaded.ckpt < answer_limit
  pub some_bytes : (j : ℕ) → j < length u.book.lines → 0 < length (line_at u.book.lines j).bytes
  pub step : IsAt u u.step
