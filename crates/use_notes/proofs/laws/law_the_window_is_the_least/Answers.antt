use Rattle.use_notes.proofs.Windows.{window-in, window-out}
use Rattle.use_notes.proofs.laws.law_the_window_is_the_least.Goals as goal

pub returns : goal.returns
returns c = λ fs w. (window-in fs w, window-out fs w)
