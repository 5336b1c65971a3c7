-- The lists that a session's calls are lent together: what they hold, and that the references to them stay. Definitions only.
use Rattle.std.specs.Prelude.{List, Float}
use Rattle.offer.specs.Run.{Vectors}
use Rattle.script.specs.Place.{Stays, SamePlace}
use Rattle.script.specs.declared.Place.{Place}
use Rattle.station.specs.declared.lists.Proposal.{Proposal}
use Rattle.station.specs.declared.lists.Lists.{Lists}

abbrev pub lent : Place → Proposal → (scratch : List Float) → Vectors
lent place proposal scratch = record {
  point = place.point.now;
  gradient = place.gradient.now;
  hessian = place.hessian.now;
  step = proposal.step.now;
  trial = proposal.trial.now;
  scratch = scratch;
}

abbrev pub held : Lists → Vectors
held lists = lent lists.place lists.proposal lists.scratch.now

pub record SameProposal (proposal proposal' : Proposal) : Type 0 where
  pub step : Stays proposal.step proposal'.step
  pub trial : Stays proposal.trial proposal'.trial

pub record Same (lists lists' : Lists) : Type 0 where
  pub place : SamePlace lists.place lists'.place
  pub proposal : SameProposal lists.proposal lists'.proposal
  pub scratch : Stays lists.scratch lists'.scratch
