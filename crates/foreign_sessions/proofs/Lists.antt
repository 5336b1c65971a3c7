-- From what each function says to what a call promises. Assumes nothing.
use mathlib.Core.Path.{◌≡◌, subst}
use Rattle.foreign_sessions.specs.Lists.{Told, Driven}

pub drives : {Session After : Type 0} {session s : Session} {after : After} {t : Told} (kept : After → Told) (Call : Session → After → Type 0) → s ≡ session → Call s after → t ≡ kept after → Driven session kept Call t
drives {after = after} kept Call e call k = record { after = after; calls = subst (λ x. Call x after) e call; keeps = k }
