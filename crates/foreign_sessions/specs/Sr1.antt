-- An `SR1TrustRegion` session in lists: what they stand for, and what a call leaves in them. Definitions only.
-- Words and numbers are those of Lists.antt. Settings: radius, eta, factor, tol_grad.
use Rattle.std.specs.Prelude.{List, ℕ, Float}
use Rattle.vectors.specs.Vector.{at}
use Rattle.sr1.specs.Session.{Session, start}
use Rattle.sr1.specs.Calls.{After}
use Rattle.codec.specs.Codec.{sr1_of}
use Rattle.foreign_sessions.specs.Lists as Lists
use Rattle.foreign_sessions.specs.Lists.{word, Told, kept, began}

abbrev pub session_in : (phase : ℕ) → (words : List ℕ) → (numbers settings : List Float) → Session
session_in = Lists.session_at sr1_of 1

-- a start looks at no phase
abbrev pub starts : (words : List ℕ) → (numbers settings : List Float) → Told
starts words numbers settings = began words numbers (λ s. s.state) (start (session_in 0 words numbers settings).settings (at numbers 2))

abbrev pub Driven : (words : List ℕ) → (numbers settings : List Float) → (Session → After → Type 0) → Told → Type 0
Driven words numbers settings = Lists.Driven (session_in (word words 6) words numbers settings) (λ after. kept words numbers after.session.state after.outcome)
