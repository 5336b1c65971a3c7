-- `kernels::steihaug::by_model` meets its contract. Assumes nothing.
use Rattle.kernels.proofs.Passes.{of_two, of_three}
use Rattle.kernels.proofs.steihaug.by_model.Goals as goal

pub returns-in-None : goal.returns-in-None
returns-in-None c =
    of_two _ _ _ _ _ _ _ _ _ _ c.value-a.ensures.0 c.value-a.ensures.1 c.value-b.ensures.0 c.value-b.ensures.1 c.in-None.is c.least.ensures

pub returns-in-Some : goal.returns-in-Some
returns-in-Some c =
    of_three _ _ _ _ _ _ _ _ _ _ c.value-a.ensures.0 c.value-a.ensures.1 c.value-b.ensures.0 c.value-b.ensures.1
    _ _ _ c.value-c.ensures.0 c.value-c.ensures.1 c.in-Some.is c.least-in-Some.ensures
