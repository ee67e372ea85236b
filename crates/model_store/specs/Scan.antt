-- What is read off the log from a checkpoint on, wherever its blocks are taken: the blocks, the groups, and the end. And which
-- block the scan of a log device takes at an lsn. In format 1 it is the one in its place, if it fits. In formats 2 and 3 it is the
-- one in its place, if it fits and is full; else of the tail blocks that fit the one with the greater length.
-- What is read off the bytes of the two devices of a store: its pages and the log's end, or the one refusal that comes
-- first. And what a store is opened as: formatted by the command, where its log device is unused, or read.
use Rattle.std.specs.Prelude.{ℕ, suc, ◌≡◌, ◌≢◌, ◌≤◌, ◌<◌, ◌+◌, ◌-◌, ◌==◌, ◌⊎◌, if◌then◌else◌, true, false, List, [], ◌∷◌, ◌++◌, length, drop, slice_get, Option, Some, None, nat_lt, ◌^◌, nat_le, replicate}
use Rattle.std.specs.List.{AllByRecursion}
use Rattle.std.specs.Option.{option_map}
use Rattle.model_base.specs.declared.shape.Shape.{Shape}
use Rattle.model_base.specs.declared.limits.TheConstants.{BLOCK_SIZE, MAX_GROUP, LSN_LIMIT, FIRST_DATA_LSN}
use Rattle.model_log.specs.{data_of, group_length, group_text, GroupFits, groups_of, is_full, IsFront, IsGroup, IsRunOf, last_span_end, lsn_at, sn_of, spans_of, stream_of, header_block, log_block, read_block, turn_of, head_of, layout_of, log_device_length, newest_checkpoint}
use Rattle.model_log.specs.declared.rec.Rec.{Rec}
use Rattle.model_log.specs.declared.group.Whole.{Whole}
use Rattle.model_log.specs.declared.layout.TheConstants.{BLOCK_HEADER, HEADER_BYTES}
use Rattle.model_log.specs.declared.block.BlockView.{BlockView}
use Rattle.model_log.specs.declared.head.Format.{Format}
use Rattle.model_log.specs.declared.head.Format.TheVariants.{One}
use Rattle.model_log.specs.declared.layout.Layout.{Layout}
use Rattle.model_log.specs.declared.head.Head.TheVariants.{Good, OtherFormat, Unformatted}
use Rattle.model_page.specs.{copy_lsn, data_device_length, IsKept, IsLost, slot_bytes, user_part, blank_pages}
use Rattle.model_page.specs.declared.content.Content.{Content}
use Rattle.model_store.specs.Apply.{page_after}
use Rattle.model_store.specs.declared.refusal.Refusal.{Refusal}
use Rattle.model_store.specs.declared.refusal.Refusal.TheVariants.{SmallLog, NotFormatted, BadFormat, SmallData, NoCheckpoint, BadRecord, PageLost, PageAhead}
use Rattle.model_base.specs.{default_shape, run_shape}

-- a block that the scan takes: what it says of itself, and its data bytes that are in use
pub record Taken : Type 0 where
  pub view : BlockView
  pub bytes : List ℕ

-- a block's view with its data out of the bytes in which it stands
abbrev pub taken_from : List ℕ → Option BlockView → Option Taken
taken_from bytes None = None
taken_from bytes (Some view) = Some (record { view = view; bytes = data_of view bytes })

-- what the scan takes at each lsn: a block, or none
abbrev pub Source : Type 0
Source = ℕ → Option Taken

-- what the block says of itself that is taken at the lsn
abbrev pub view_at : Source → ℕ → Option BlockView
view_at source lsn = option_map (λ (block : Taken). block.view) (source lsn)

-- the data of a block that is taken; where none is, there is none
abbrev pub bytes_of : Option Taken → List ℕ
bytes_of None = []
bytes_of (Some block) = block.bytes

-- why no block is read past these: the log has no other place, the last of them isn't full, or no next one is taken
abbrev pub IsLastOf : ℕ → Source → ℕ → List BlockView → Type 0
IsLastOf most source ckpt views =
    (length views ≡ most)
    ⊎ ((view : BlockView) × (i : ℕ) × (suc i ≡ length views) × (slice_get views i ≡ Some view) × (is_full view ≡ false))
    ⊎ (view_at source (lsn_at ckpt (length views)) ≡ None)

-- The blocks that are read: from the checkpoint's on, whose lsn goes up by 512, while one is taken, up to and including
-- the first that isn't full, at most as many as the log has.
pub record AreBlocks (most : ℕ) (source : Source) (ckpt : ℕ) (views : List BlockView) : Type 0 where
  pub few : length views ≤ most
  pub each : (i : ℕ) (view : BlockView) → slice_get views i ≡ Some view → view_at source (lsn_at ckpt i) ≡ Some view
  pub full : (i : ℕ) (view : BlockView) → suc i < length views → slice_get views i ≡ Some view → is_full view ≡ true
  pub last : IsLastOf most source ckpt views

-- the data of as many blocks as there are views, joined; the first of them is at the lsn
abbrev pub joined : Source → ℕ → List BlockView → List ℕ
joined source lsn [] = []
joined source lsn (view ∷ views) = bytes_of (source lsn) ++ joined source (lsn + BLOCK_SIZE) views

-- where the groups start that are read: at the first offset that isn't 0, in the first block that has one
abbrev pub groups_start : ℕ → List BlockView → Option ℕ
groups_start lsn [] = None
groups_start lsn (view ∷ views) = if view.first == 0 then groups_start (lsn + BLOCK_SIZE) views else Some (lsn + view.first)

-- the bytes of the blocks' data from that lsn on
abbrev pub data_from : Source → ℕ → List BlockView → ℕ → List ℕ
data_from source ckpt views start = drop (sn_of start - sn_of ckpt) (joined source ckpt views)

-- a group with a text of at most 8,192 bytes that fits the store
pub record IsStorable (shape : Shape) (group : List Rec) : Type 0 where
  pub has_text : IsGroup group
  pub short : group_length group ≤ MAX_GROUP
  pub fits : GroupFits shape group

-- the bytes are these groups from the lsn on, one after another, and then the rest
pub record AreGroups (shape : Shape) (bytes : List ℕ) (start : ℕ) (wholes : List Whole) (rest : List ℕ) : Type 0 where
  pub bytes_are : bytes ≡ stream_of (groups_of wholes) ++ rest
  pub run : IsRunOf start wholes
  pub each : AllByRecursion (IsStorable shape) (groups_of wholes)

-- no group that fits stands at the front of the bytes
abbrev pub HasNoStorable : Shape → List ℕ → Type 0
HasNoStorable shape bytes = (group : List Rec) (more : List ℕ) → IsStorable shape group → bytes ≢ group_text group ++ more

-- The groups of the log and its end, for the blocks that were read. Past the last group stands less than a whole one,
-- or nothing. Where no block has a first offset nothing is parsed, and the log ends at the first data byte of the block
-- after the last one.
abbrev pub AreGroupsOf : Shape → Source → ℕ → List BlockView → Option ℕ → List Whole → ℕ → Type 0
AreGroupsOf shape source ckpt views None wholes end =
    (wholes ≡ []) × (end ≡ lsn_at ckpt (length views) + BLOCK_HEADER)
AreGroupsOf shape source ckpt views (Some start) wholes end =
    (rest : List ℕ) × AreGroups shape (data_from source ckpt views start) start wholes rest
    × IsFront rest × (end ≡ last_span_end start (spans_of wholes))

-- The scan of a source from the checkpoint at the lsn `ckpt` on: the blocks, the whole groups, and the end.
pub record IsScan (shape : Shape) (most : ℕ) (source : Source) (ckpt : ℕ) (views : List BlockView) (wholes : List Whole) (end : ℕ) : Type 0 where
  pub blocks : AreBlocks most source ckpt views
  pub groups : AreGroupsOf shape source ckpt views (groups_start ckpt views) wholes end

-- The scan is refused for what stands at the lsn: after groups that fit comes no group that does, nor less than a
-- whole one.
pub record IsBadRecord (shape : Shape) (most : ℕ) (source : Source) (ckpt lsn : ℕ) : Type 0 where
  pub views : List BlockView
  pub blocks : AreBlocks most source ckpt views
  pub start : ℕ
  pub starts : groups_start ckpt views ≡ Some start
  pub wholes : List Whole
  pub rest : List ℕ
  pub groups : AreGroups shape (data_from source ckpt views start) start wholes rest
  pub no_storable : HasNoStorable shape rest
  pub no_rest : IsFront rest → ⊥
  pub at : lsn ≡ last_span_end start (spans_of wholes)

-- the view, if the block is full
abbrev pub if_full : Option BlockView → Option BlockView
if_full None = None
if_full (Some view) = if is_full view then Some view else None

-- the view, if the block isn't full and names the turn of the lsn where others name a checkpoint
abbrev pub if_tail : ℕ → Option BlockView → Option BlockView
if_tail lsn None = None
if_tail lsn (Some view) = if is_full view then None else (if view.ckpt == turn_of lsn then Some view else None)

-- a full block of the lsn, as it stands in its place
abbrev pub read_full : ℕ → List ℕ → Option BlockView
read_full lsn bytes = if_full (read_block lsn bytes)

-- an incomplete block of the lsn, as it stands in a tail block
abbrev pub read_tail : ℕ → List ℕ → Option BlockView
read_tail lsn bytes = if_tail lsn (read_block lsn bytes)

-- of two blocks the one with the greater length, the first on a tie
abbrev pub longer : List ℕ → List ℕ → Option BlockView → Option BlockView → Option Taken
longer one two None second = taken_from two second
longer one two (Some first) None = taken_from one (Some first)
longer one two (Some first) (Some second) =
    if nat_lt first.length second.length then taken_from two (Some second) else taken_from one (Some first)

-- the block in its place, or else that of the tails
abbrev pub in_place_or : List ℕ → Option BlockView → Option Taken → Option Taken
in_place_or bytes None tail = tail
in_place_or bytes (Some view) tail = taken_from bytes (Some view)

-- what is taken of the 512 bytes in the place, and of those of the two tail blocks
abbrev pub taken_among : Format → ℕ → List ℕ → List ℕ → List ℕ → Option Taken
taken_among One lsn place four five = taken_from place (read_block lsn place)
taken_among format lsn place four five =
    in_place_or place (read_full lsn place) (longer four five (read_tail lsn four) (read_tail lsn five))

-- what the scan of a log device takes: none at the lsn limit or above
abbrev pub taken : Layout → List ℕ → Source
taken layout image lsn =
    if nat_lt lsn LSN_LIMIT
    then taken_among layout.format lsn (log_block layout lsn image) (header_block 4 image) (header_block 5 image) else None

-- Page p after those groups that start at or above the lsn q, in order.
abbrev pub replayed : ℕ → ℕ → List Whole → Content → Content
replayed p q [] page = page
replayed p q (whole ∷ wholes) page =
    replayed p q wholes (if nat_le q whole.start then page_after p whole.group whole.end page else page)

-- what is read off two devices
pub record Reading : Type 0 where
  pub format : Format
  pub shape : Shape
  -- the newest checkpoint: its number and its lsn
  pub number : ℕ
  pub ckpt : ℕ
  -- the blocks and the groups that were scanned, and where the log ends
  pub views : List BlockView
  pub wholes : List Whole
  pub end : ℕ
  pub pages : List Content

-- the log device has room for a header, and its header is that of a store of this format and shape
pub record HasHead (log : List ℕ) (format : Format) (shape : Shape) : Type 0 where
  pub long : HEADER_BYTES ≤ length log
  pub head : head_of log ≡ Good format shape

-- both devices are as long as the shape asks
pub record HasDevices (log data_bytes : List ℕ) (format : Format) (shape : Shape) : Type 0 where
  pub head : HasHead log format shape
  pub log_long : log_device_length shape ≤ length log
  pub data_long : data_device_length shape ≤ length data_bytes

-- there is a newest checkpoint, and the scan from it on
pub record HasScan (log data_bytes : List ℕ) (format : Format) (shape : Shape) (number ckpt : ℕ) (views : List BlockView) (wholes : List Whole) (end : ℕ) : Type 0 where
  pub devices : HasDevices log data_bytes format shape
  pub checkpoint : newest_checkpoint (layout_of format shape) log ≡ Some (number, ckpt)
  pub scan : IsScan shape (layout_of format shape).blocks (taken (layout_of format shape) log) ckpt views wholes end

-- Page p as it is read: the kept page, which isn't ahead of the log's end, with each scanned group applied that
-- starts at or above its lsn.
pub record IsReadPage (shape : Shape) (data_bytes : List ℕ) (wholes : List Whole) (end p : ℕ) (page : Content) : Type 0 where
  pub kept : Content
  pub is_kept : IsKept shape data_bytes p kept
  pub not_ahead : kept.lsn ≤ end
  pub replay : page ≡ replayed p kept.lsn wholes kept

-- A store whose two devices hold these bytes is read as this.
pub record IsReading (log data_bytes : List ℕ) (reading : Reading) : Type 0 where
  pub scan : HasScan log data_bytes reading.format reading.shape reading.number reading.ckpt reading.views reading.wholes reading.end
  pub count : length reading.pages ≡ reading.shape.pages
  pub each : (p : ℕ) (page : Content) → slice_get reading.pages p ≡ Some page
      → IsReadPage reading.shape data_bytes reading.wholes reading.end p page

-- the scan went well, and this is the shape and the end
pub record IsScanned (log data_bytes : List ℕ) (shape : Shape) (end : ℕ) : Type 0 where
  pub format : Format
  pub number : ℕ
  pub ckpt : ℕ
  pub views : List BlockView
  pub wholes : List Whole
  pub scan : HasScan log data_bytes format shape number ckpt views wholes end

-- page p is kept, with this lsn
pub record IsKeptAt (shape : Shape) (data_bytes : List ℕ) (p lsn : ℕ) : Type 0 where
  pub kept : Content
  pub is_kept : IsKept shape data_bytes p kept
  pub same : lsn ≡ kept.lsn

-- every page below this number is kept
abbrev pub AreKeptBelow : Shape → List ℕ → ℕ → Type 0
AreKeptBelow shape data_bytes n = (p : ℕ) → p < n → (lsn : ℕ) × IsKeptAt shape data_bytes p lsn

-- no page below this number is kept with an lsn above the end
abbrev pub AreNotAheadBelow : Shape → List ℕ → ℕ → ℕ → Type 0
AreNotAheadBelow shape data_bytes end n = (p lsn : ℕ) → p < n → IsKeptAt shape data_bytes p lsn → lsn ≤ end

-- The two devices are refused for this cause. Each cause has in it that none of those before it holds: the lengths
-- and the head, then the checkpoint, then the log, then every page for being lost, then every page for being ahead,
-- each time ascending.
abbrev pub Refuses : List ℕ → List ℕ → Refusal → Type 0
Refuses log data_bytes (SmallLog n) =
    ((length log < HEADER_BYTES) × (n ≡ HEADER_BYTES))
    ⊎ ((format : Format) × (shape : Shape) × HasHead log format shape × (length log < log_device_length shape) × (n ≡ log_device_length shape))
Refuses log data_bytes NotFormatted = (HEADER_BYTES ≤ length log) × (head_of log ≡ Unformatted)
Refuses log data_bytes (BadFormat n) = (HEADER_BYTES ≤ length log) × (head_of log ≡ OtherFormat n)
Refuses log data_bytes (SmallData n) =
    (format : Format) × (shape : Shape) × HasHead log format shape × (log_device_length shape ≤ length log)
    × (length data_bytes < data_device_length shape) × (n ≡ data_device_length shape)
Refuses log data_bytes NoCheckpoint =
    (format : Format) × (shape : Shape) × HasDevices log data_bytes format shape
    × (newest_checkpoint (layout_of format shape) log ≡ None)
Refuses log data_bytes (BadRecord lsn) =
    (format : Format) × (shape : Shape) × (number : ℕ) × (ckpt : ℕ) × HasDevices log data_bytes format shape
    × (newest_checkpoint (layout_of format shape) log ≡ Some (number, ckpt))
    × IsBadRecord shape (layout_of format shape).blocks (taken (layout_of format shape) log) ckpt lsn
Refuses log data_bytes (PageLost p) =
    (shape : Shape) × (end : ℕ) × IsScanned log data_bytes shape end
    × (p < shape.pages) × IsLost shape data_bytes p × AreKeptBelow shape data_bytes p
Refuses log data_bytes (PageAhead p lsn) =
    (shape : Shape) × (end : ℕ) × IsScanned log data_bytes shape end
    × AreKeptBelow shape data_bytes shape.pages
    × (p < shape.pages) × IsKeptAt shape data_bytes p lsn × (end < lsn) × AreNotAheadBelow shape data_bytes end p

-- a copy of the page in a slot is no newer than the page as it is read, and of one lsn it has the same user bytes
pub record IsNoNewerCopy (shape : Shape) (data_bytes : List ℕ) (slot lsn : ℕ) (page : Content) : Type 0 where
  pub no_newer : lsn ≤ page.lsn
  pub same : lsn ≡ page.lsn → user_part (slot_bytes shape slot data_bytes) ≡ page.user

-- no passing copy is ahead of its page as it is read
abbrev pub HasOldCopies : List ℕ → Reading → Type 0
HasOldCopies data_bytes reading =
    (p slot lsn : ℕ) (page : Content) → slot < reading.shape.slots → slice_get reading.pages p ≡ Some page
    → copy_lsn reading.shape data_bytes p slot ≡ Some lsn → IsNoNewerCopy reading.shape data_bytes slot lsn page

-- An orderly store: it is read, no passing copy is ahead of its page, and the checkpoints have room to go on.
pub record IsOrderly (log data_bytes : List ℕ) (reading : Reading) : Type 0 where
  pub reads : IsReading log data_bytes reading
  pub copies : HasOldCopies data_bytes reading
  pub numbers_left : reading.number < 2 ^ 63
  pub lsns_left : reading.ckpt < LSN_LIMIT - 2 ^ 30

-- both header blocks of the log device are all zero
pub record IsUnused (log_bytes : List ℕ) : Type 0 where
  pub first : header_block 0 log_bytes ≡ replicate BLOCK_SIZE 0
  pub second : header_block 2 log_bytes ≡ replicate BLOCK_SIZE 0

-- The log device is unused, so the command formats both: the sizes are the default ones, the pages blank, and the log
-- ends where its first group will start.
pub record OpensUnused (log_bytes : List ℕ) (shape : Shape) (pages : List Content) (end : ℕ) : Type 0 where
  pub unused : IsUnused log_bytes
  pub shape_is : shape ≡ default_shape
  pub pages_are : pages ≡ blank_pages default_shape
  pub end_is : end ≡ FIRST_DATA_LSN

-- the store is in order, and its reading has these pages and this end; the shape is that of a run on it
pub record OpensOrderly (log_bytes data_bytes : List ℕ) (shape : Shape) (pages : List Content) (end : ℕ) : Type 0 where
  pub reading : Reading
  pub orderly : IsOrderly log_bytes data_bytes reading
  pub shape_is : shape ≡ run_shape reading.shape
  pub pages_are : pages ≡ reading.pages
  pub end_is : end ≡ reading.end

-- A store of an earlier format is read, but its data device has no room for the slots and places of a run.
pub record HasNoRoomToRun (log_bytes data_bytes : List ℕ) (refusal : Refusal) : Type 0 where
  pub reading : Reading
  pub is_read : IsReading log_bytes data_bytes reading
  pub short : length data_bytes < data_device_length (run_shape reading.shape)
  pub refusal_is : refusal ≡ SmallData (data_device_length (run_shape reading.shape))

-- what the devices hold isn't opened for a run, for this cause
abbrev pub RefusesToOpen : List ℕ → List ℕ → Refusal → Type 0
RefusesToOpen log_bytes data_bytes refusal =
    Refuses log_bytes data_bytes refusal ⊎ HasNoRoomToRun log_bytes data_bytes refusal

-- a store whose devices hold these bytes is opened with this shape, these pages, and a log that ends there
abbrev pub Opens : List ℕ → List ℕ → Shape → List Content → ℕ → Type 0
Opens log_bytes data_bytes shape pages end =
    OpensUnused log_bytes shape pages end ⊎ OpensOrderly log_bytes data_bytes shape pages end
