-- `kernels::steihaug::value` meets its contract. Assumes nothing.
use mathlib.Core.Path.{◌∙◌, ap}
use Rattle.kernels.specs.Steihaug.{model}
use Rattle.kernels.proofs.Passes.{valued_here}
use Rattle.kernels.proofs.steihaug.value.Goals as goal

pub returns : goal.returns
returns c =
    let put = c.zip.ensures in
    (valued_here _ _ _ _ _ _ _ put (c.model-model.ensures ∙ ap (model _ _ _) c.part.ensures.0), (put 0, put 2))
