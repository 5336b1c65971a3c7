-- Where a fit stands: lists that are lent, and the references to them. Definitions only.
use Rattle.std.specs.Prelude.{◌≡◌, List, Float}
use Rattle.std.specs.Borrow.{MutBor}
use Rattle.script.specs.declared.Place.{Place}

-- a reference still refers to the list that it did
pub record Stays (list list' : MutBor (List Float)) : Type 0 where
  pub name : list'.ghost_name ≡ list.ghost_name
  pub pointer : list'.ref_ptr ≡ list.ref_ptr

pub record SamePlace (place place' : Place) : Type 0 where
  pub point : Stays place.point place'.point
  pub gradient : Stays place.gradient place'.gradient
  pub hessian : Stays place.hessian place'.hessian
