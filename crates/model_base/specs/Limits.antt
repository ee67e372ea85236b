-- What shapes a store may have.
use Rattle.std.specs.Prelude.{ℕ, ◌≡◌, ◌≤◌, ◌<◌, ◌%◌, ◌+◌, ◌-◌, ◌^◌, ◌⊎◌, ◌==◌, ◌&&◌, ◌||◌, nat_le, nat_lt, Bool}
use Rattle.model_base.specs.declared.shape.Shape.{Shape}
use Rattle.model_base.specs.declared.limits.TheConstants.{BLOCK_SIZE, PAGE_SIZE, LARGE_PAGE_SIZE, MAX_PAGE_SIZE, MAX_PAGES, MAX_EARLY_PAGES, DEFAULT_PAGES, DEFAULT_SPACE, DEFAULT_LOG_BLOCKS, MIN_LOG_BLOCKS, MAX_LOG_BLOCKS, PAGE_TRAILER, SLOTS, EARLY_SLOTS, USER_START}

-- the sizes of a store that is formatted without an option
abbrev pub default_shape : Shape
default_shape = record { page_size = PAGE_SIZE; pages = DEFAULT_PAGES; space = DEFAULT_SPACE; log_blocks = DEFAULT_LOG_BLOCKS; slots = SLOTS }

-- how many space ids there are: one stands in 4 bytes
abbrev pub space_limit : ℕ
space_limit = 2 ^ 32

-- how many bytes a page may have
unfoldable pub IsPageSize : ℕ → Type 0
IsPageSize n = (n ≡ PAGE_SIZE) ⊎ (n ≡ LARGE_PAGE_SIZE)

-- what is so of each such number, and all that is used of it (the law `page_size_as_facts`)
pub record IsWholeSectors (n : ℕ) : Type 0 where
  pub sectors : n % BLOCK_SIZE ≡ 0
  pub least : BLOCK_SIZE ≤ n
  pub most : n ≤ MAX_PAGE_SIZE

-- bytes of a page that aren't user bytes
abbrev pub frame_length : ℕ
frame_length = USER_START + PAGE_TRAILER

-- how many user bytes a page has
abbrev pub user_length : Shape → ℕ
user_length shape = shape.page_size - frame_length

-- the test of that
abbrev pub is_page_size : ℕ → Bool
is_page_size n = n == PAGE_SIZE || n == LARGE_PAGE_SIZE

-- the page size, and how many pages and slots there are, of a store as one is made
abbrev pub has_sizes : Shape → Bool
has_sizes shape = is_page_size shape.page_size && nat_le shape.pages MAX_PAGES && shape.slots == SLOTS

-- those of a store of format 1 or 2
abbrev pub has_early_sizes : Shape → Bool
has_early_sizes shape =
    shape.page_size == PAGE_SIZE && nat_le shape.pages MAX_EARLY_PAGES && shape.slots == EARLY_SLOTS

-- the sizes with which a run is made on a store of this shape: it has the slots of the latest format
abbrev pub run_shape : Shape → Shape
run_shape shape = record { page_size = shape.page_size; pages = shape.pages; space = shape.space; log_blocks = shape.log_blocks; slots = SLOTS }

-- each size is one that a store may have; any space id is
abbrev pub is_within_limits : Shape → Bool
is_within_limits shape =
    nat_le 1 shape.pages && nat_lt shape.space space_limit && nat_le MIN_LOG_BLOCKS shape.log_blocks
    && nat_le shape.log_blocks MAX_LOG_BLOCKS && (has_sizes shape || has_early_sizes shape)

-- the sizes of a store of format 1 or 2, fact by fact
pub record IsEarly (shape : Shape) : Type 0 where
  pub page_size : shape.page_size ≡ PAGE_SIZE
  pub few_pages : shape.pages ≤ MAX_EARLY_PAGES
  pub slots : shape.slots ≡ EARLY_SLOTS

-- what passing the test of the limits says, fact by fact (the law `limits_as_facts`)
pub record IsWithinLimits (shape : Shape) : Type 0 where
  pub page_size : IsPageSize shape.page_size
  pub some_pages : 1 ≤ shape.pages
  pub few_pages : shape.pages ≤ MAX_PAGES
  pub space : shape.space < space_limit
  pub many_blocks : MIN_LOG_BLOCKS ≤ shape.log_blocks
  pub few_blocks : shape.log_blocks ≤ MAX_LOG_BLOCKS
  pub slots : (shape.slots ≡ SLOTS) ⊎ IsEarly shape
