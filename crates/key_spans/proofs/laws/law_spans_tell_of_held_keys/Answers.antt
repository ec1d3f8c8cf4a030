use Rattle.key_spans.proofs.Runs.{tell-of}
use Rattle.key_spans.proofs.laws.law_spans_tell_of_held_keys.Goals as goal

pub returns-clause-legal : goal.returns-clause-legal
returns-clause-legal c = λ settings users r legal. tell-of settings users r legal.stepped

pub returns-clause-stepped : goal.returns-clause-stepped
returns-clause-stepped c = λ settings users r stepped. tell-of settings users r stepped
