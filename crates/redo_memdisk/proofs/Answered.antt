-- What holds whatever a call answered.
use Rattle.std.proofs.Common.{Result, Ok, Err, OnOk, OnErr}

pub at_either : {T E : Type 0} (answer : Result T E) (P Q : Type 0) → (P → Q) → OnOk answer P → OnErr answer Q → Q
at_either (Ok value) P Q weaker good bad = weaker good
at_either (Err error) P Q weaker good bad = bad

pub OnOk-always : {T E : Type 0} (answer : Result T E) (P : Type 0) → P → OnOk answer P
OnOk-always (Ok value) P holds = holds
OnOk-always (Err error) P holds = tt

pub OnErr-always : {T E : Type 0} (answer : Result T E) (P : Type 0) → P → OnErr answer P
OnErr-always (Ok value) P holds = tt
OnErr-always (Err error) P holds = holds
