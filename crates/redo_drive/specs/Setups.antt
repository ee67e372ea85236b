-- The words with which a run begins, and the actors of the run of a script on a store, as it begins.
use Rattle.std.specs.Prelude.{List, [], drop, false, map, replicate, slice_set, suc, take, zero, ℕ, ◌%◌, ◌++◌, ◌-◌, ◌/◌, ◌∷◌, Bool, cond, length, true, ◌+◌, ◌==◌}
use Rattle.model_base.specs.declared.limits.TheConstants.{BLOCK_SIZE, PAGE_TRAILER, USER_START}
use Rattle.model_core.specs.{frame_words, packed, PageWords, SharedWords, Actor, collected, Line, new_checkpointer, new_cleaner, new_closer, new_flusher, new_reader, new_user, new_writer, line_of, UserState}
use Rattle.model_core.specs.declared.limits.TheConstants.{BUFFER_BLOCKS, BUFFER_WORDS, CLOSED_LINKS, FLUSH_LISTS, READERS, WORD_LANES, WRITTEN_LINKS}
use Rattle.model_log.specs.{sn_of, run_layout}
use Rattle.model_log.specs.declared.layout.TheConstants.{BLOCK_HEADER}
use Rattle.model_page.specs.declared.content.Content.{Content}
use Rattle.model_base.specs.declared.shape.Shape.{Shape}
use Rattle.model_core.specs.States as actor
use Rattle.model_report.specs.{lines_of_user}
use Rattle.model_log.specs.declared.rec.Rec.{Rec}
use Rattle.model_script.specs.{group_of}
use Rattle.model_script.specs.declared.misfit.TheConstants.{MAX_USERS}
use Rattle.model_script.specs.declared.script.ScriptLine.{ScriptLine}
use Rattle.redo_drive.specs.declared.plan.Plan.{Plan}
use Rattle.redo_drive.specs.declared.seating.TheConstants.{FIRST_FOLLOWER}

unfoldable pub zeros : ℕ → List ℕ
zeros n = replicate n 0

-- the cells of a page: its user bytes, and 0 before and after them, where the running store keeps nothing
unfoldable pub page_cells : List ℕ → List ℕ
page_cells user = replicate USER_START 0 ++ user ++ replicate PAGE_TRAILER 0

-- these bytes as so many words, eight in each
abbrev pub packed_words : ℕ → List ℕ → List ℕ
packed_words zero bytes = []
packed_words (suc n) bytes = packed 0 (take WORD_LANES bytes) ∷ packed_words n (drop WORD_LANES bytes)

-- the words of the frame of a page of so many bytes
unfoldable pub page_frame : ℕ → List ℕ → List ℕ
page_frame page_size user = packed_words (frame_words page_size) (page_cells user)

-- up to where the readers of the log have it as the run begins: the archiver up to the block of the start, and each
-- follower up to the start
abbrev pub first_places : ℕ → List ℕ
first_places start = (start - BLOCK_HEADER) ∷ replicate (READERS - 1) start

-- a page that is free and in no list, with these words as its frame
abbrev pub free_page : List ℕ → PageWords
free_page frame = record { latch = 0; newest = 0; oldest = 0; frame = frame }

-- The words by name: up to the start, an lsn, all is written and flushed, a block's header below it stands the newest
-- checkpoint, nothing is linked or held, and each page, of so many
-- bytes, is free and as it was opened.
abbrev pub first_words : ℕ → ℕ → List Content → SharedWords
first_words page_size start pages = record {
  sn = sn_of start;
  write = start;
  wtail = start;
  wheld = false;
  flushed = start;
  ckpt = start - BLOCK_HEADER;
  ctail = start;
  cheld = false;
  failed = 0;
  device = 0;
  lists = zeros FLUSH_LISTS;
  wlinks = zeros WRITTEN_LINKS;
  clinks = zeros CLOSED_LINKS;
  cells = zeros BUFFER_WORDS;
  firsts = slice_set (zeros BUFFER_BLOCKS) (start / BLOCK_SIZE % BUFFER_BLOCKS) BLOCK_HEADER;
  places = first_places start;
  page_words = map (λ (page : Content). free_page (page_frame page_size page.user)) pages;
}

-- the lines of a user, each a mode and a group
abbrev pub user_lines : (space : ℕ) → List ScriptLine → (user : ℕ) → List (ℕ × List Rec)
user_lines space script user = map (λ (line : ScriptLine). (line.mode, group_of space line)) (lines_of_user user script)

-- the lines of each user, as its program has them
abbrev pub programs_of : Shape → (log_only : Bool) → List ScriptLine → ℕ → List Line
programs_of shape log_only script user =
    map (λ (line : ℕ × List Rec). line_of log_only shape line.0 line.1) (user_lines shape.space script user)

-- the user of a number, if it has lines
abbrev pub user_of : (blocks : ℕ) → (ℕ → List Line) → (user : ℕ) → List UserState
user_of blocks programs user = cond (length (programs user) == 0) [] (new_user user blocks (programs user) ∷ [])

-- the users below a number that have lines, ascending
abbrev pub users_below : (blocks : ℕ) → (ℕ → List Line) → ℕ → List UserState
users_below blocks programs n = collected (user_of blocks programs) n

-- all users that have lines
abbrev pub users_of : Shape → (log_only : Bool) → List ScriptLine → List UserState
users_of shape log_only script = users_below (run_layout shape).blocks (programs_of shape log_only script) (MAX_USERS + 1)

-- so many followers, the first of which has this number
abbrev pub followers_from : (start : ℕ) → (number : ℕ) → (followers : ℕ) → List Actor
followers_from start number zero = []
followers_from start number (suc n) = actor.Reader (new_reader number start) ∷ followers_from start (number + 1) n

-- the number of the first reader of the log: 0, the archiver's, or that of the first follower
abbrev pub first_reader : (archive : Bool) → ℕ
first_reader true = 0
first_reader false = FIRST_FOLLOWER

-- the readers of the log: the archiver, if the run is archived, and the followers
abbrev pub readers_of : (start : ℕ) → Plan → List Actor
readers_of start plan = let all : List Actor = followers_from start FIRST_FOLLOWER plan.followers in
    cond plan.archive (actor.Reader (new_reader 0 start) ∷ all) all

-- the actors of the pages; where the log runs alone there are none
abbrev pub page_actors : Shape → (start : ℕ) → Plan → List Actor
page_actors shape start plan = cond plan.log_only []
    (actor.Closer new_closer ∷ actor.Cleaner (new_cleaner shape.pages shape.page_size shape.slots)
    ∷ actor.Checkpointer (new_checkpointer start (first_reader plan.archive) (FIRST_FOLLOWER + plan.followers)) ∷ [])

-- the actors behind the users, before the readers of the log
abbrev pub other_actors : Shape → (start : ℕ) → Plan → List Actor
other_actors shape start plan = actor.Writer (new_writer (run_layout shape).blocks start)
    ∷ actor.Flusher (new_flusher start) ∷ page_actors shape start plan

-- all actors in their seats, with nothing done: behind these users the others, and the readers of the log come last
abbrev pub with_others : (users : List Actor) → Shape → (start : ℕ) → Plan → List Actor
with_others users shape start plan = (users ++ other_actors shape start plan) ++ readers_of start plan

-- the actors of the run of a script in their seats, with nothing done
abbrev pub seated_actors : Shape → List ScriptLine → (start : ℕ) → Plan → List Actor
seated_actors shape script start plan =
    with_others (map actor.User (users_of shape plan.log_only script)) shape start plan
