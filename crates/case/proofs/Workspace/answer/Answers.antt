-- `case::Workspace::answer` meets its contract. Assumes nothing.
use mathlib.Core.Path.{◌∙◌, ap}
use borrow.Author.Rules.{rules}
use Rattle.case.specs.Case.{said}
use Rattle.case.proofs.Answers.{answer_wide}
use Rattle.case.proofs.Workspace.answer.Goals as goal

pub returns-clause-says : goal.returns-clause-says
returns-clause-says c = c.answer.ensures.says ∙ ap said (answer_wide _ _ _ _ _ (search rules) (search rules) (search rules) (search rules))
