use Rattle.known_keys.specs.OneKey.{BreaksOneKey}
use Rattle.use_notes.specs.Once.{BreaksOnce}
use Rattle.capture_audit.specs.Before.{entries, frames}
use Rattle.capture_audit.proofs.Naming.{names-least, names-none}
use Rattle.capture_audit.proofs.laws.law_the_least_pair_is_named.Goals as goal

pub returns : goal.returns
returns c = record {
  once = λ ring packets v is. names-least (BreaksOnce (frames ring packets)) v.once is.once;
  once_ok = λ ring packets v is. names-none (BreaksOnce (frames ring packets)) v.once is.once;
  one_key = λ ring packets v is. names-least (BreaksOneKey (entries ring packets)) v.one_key is.one_key;
  one_key_ok = λ ring packets v is. names-none (BreaksOneKey (entries ring packets)) v.one_key is.one_key;
}
