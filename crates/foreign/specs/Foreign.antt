-- What is handed over where a Result cannot go: 0 for a result, or the refusal's number. Definitions only.
use Rattle.std.specs.Prelude.{◌≡◌, List, Result, Ok, Err, ℕ, Float}
use Rattle.vectors.specs.Refusal.{Answer, refused, given, number, left_in, scratch_after}
use Rattle.vectors.specs.declared.refusal.Refusal.{Refusal}
use Rattle.kernels.specs.Kernel.{Made}

-- the number of an answer that is none, and 0 for one
abbrev pub code : {A : Type 0} → Answer A → ℕ
code (refused r) = number r
code (given a) = 0

-- the same of a result, by which the code tells an answer
abbrev pub result_code : {A : Type 0} → Result A Refusal → ℕ
result_code (Ok a) = 0
result_code (Err r) = number r

-- ---- each call: r is what it returns; what it is lent is that at entry, that with a prime at exit

-- a number or a list goes where the call is told; a refusal leaves what stood there
pub record Filled {A : Type 0} (answer : Answer A) (r : ℕ) (out out' : A) : Type 0 where
  pub says : r ≡ code answer
  pub leaves : out' ≡ left_in (λ v. v) answer out

pub record Cleared (answer : Answer (List Float)) (r : ℕ) (out out' scratch scratch' : List Float) : Type 0 where
  pub filled : Filled answer r out out'
  pub clears : scratch' ≡ scratch_after answer scratch

pub record Numbered (answer : Answer Made) (r : ℕ) (step step' scratch scratch' : List Float) : Type 0 where
  pub says : r ≡ code answer
  pub leaves : step' ≡ left_in (λ m. m.step) answer step
  pub clears : scratch' ≡ scratch_after answer scratch
