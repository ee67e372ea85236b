-- How a seat is cut off the first one, and how it is taken in again.
use Rattle.std.specs.Prelude.{Bool, List, None, Option, Some, [], cond, false, true, ◌++◌, ◌∷◌}
use Rattle.model_core.specs.States as model
use Rattle.model_core.specs.declared.words.Layout.{Layout}
use Rattle.redo_rule.specs.declared.law.Numbered.{Numbered}
use Rattle.redo_rule.specs.declared.law.View.{View}

abbrev pub is_cleaner : model.Actor → Bool
is_cleaner (model.Cleaner v) = true
is_cleaner _ = false

abbrev pub first_numbered : List Numbered → List Numbered
first_numbered [] = []
first_numbered (x ∷ xs) = x ∷ []

abbrev pub rest_numbered : List Numbered → List Numbered
rest_numbered [] = []
rest_numbered (x ∷ xs) = xs

-- the cleaner's seat gets the data part
abbrev pub heads_cleaner : List Numbered → Bool
heads_cleaner [] = false
heads_cleaner (x ∷ xs) = is_cleaner x.actor

abbrev pub first_some : {A : Type 0} → Option A → Option A → Option A
first_some (Some x) other = Some x
first_some None other = other

-- the words of a store without pages
abbrev pub no_pages : Layout
no_pages = record { pages = 0; page_size = 0 }

module _ {L D : Type 0} where
  -- the first of its actors gets a seat of its own
  abbrev pub cut_left : View L D → View L D
  cut_left v = record {
    about = v.about;
    layout = v.layout;
    seats = rest_numbered v.seats;
    held = v.held;
    data_part =
        cond (heads_cleaner v.seats) None v.data_part;
  }

  abbrev pub cut_right : View L D → View L D
  cut_right v = record {
    about = v.about;
    layout = v.layout;
    seats = first_numbered v.seats;
    held = None;
    data_part =
        cond (heads_cleaner v.seats) v.data_part None;
  }

  -- what the other has comes before
  abbrev pub taken_in : View L D → View L D → View L D
  taken_in v w = record {
    about = w.about;
    layout = w.layout;
    seats = w.seats ++ v.seats;
    held = None;
    data_part =
        first_some v.data_part w.data_part;
  }

  abbrev pub spent : View L D
  spent = record { about = None; layout = no_pages; seats = []; held = None; data_part = None }
