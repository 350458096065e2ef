-- What is written about an attribute of a path.
use Rattle.std.specs.Prelude.{ℕ, List, [], ◌∷◌, ◌++◌, codes}
use Rattle.glob_attributes.specs.Answers.{state_text}
use Rattle.glob_attributes.specs.declared.assignment.State.{State}
use Rattle.tree_answers.specs.declared.form.Form.{Form}
use Rattle.tree_answers.specs.declared.form.Form.TheVariants.{Lines, Records}
use Rattle.tree_answers.specs.Lines.{behind}

-- the name of the attribute, with what parts it from the path before it and from the state behind it
abbrev pub label_text : Form → List ℕ → List ℕ
label_text (Lines quoting) name = codes ": " ++ (name ++ codes ": ")
label_text Records name = 0 ∷ (name ++ 0 ∷ [])

-- the path as it is shown, a label, the state, and a line feed or a NUL
abbrev pub answer_text : Form → List ℕ → List ℕ → State (List ℕ) → List ℕ
answer_text form shown label state = shown ++ (label ++ (state_text state ++ behind form 10 ∷ []))
