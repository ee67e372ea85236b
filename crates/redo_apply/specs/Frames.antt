-- The pages that lsns and joined user bytes come to.
use Rattle.std.specs.Prelude.{ℕ, List, [], ◌∷◌, take, drop}
use Rattle.model_page.specs.declared.content.Content.{Content}

-- one page for each lsn, with so many of the user bytes
abbrev pub contents : ℕ → List ℕ → List ℕ → List Content
contents size [] users = []
contents size (lsn ∷ lsns) users = (record { lsn = lsn; user = take size users }) ∷ contents size lsns (drop size users)
