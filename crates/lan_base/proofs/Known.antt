-- What is known of a reader or a writer always or never is known exactly.
use Rattle.std.proofs.Common.{◌≡◌, ℕ, List, take, refl, ap}
use Rattle.std.specs.Prelude.{Option, Some, None, Result, Ok, Err, IfOk, OnErr, is_some}
use Rattle.std.specs.Io.KnownBytes.{Keeps, Appends, Consumes, ReadConsumes, WriteAppends}
use Rattle.lan_base.specs.Told.{before, after}

kept : (old new : Option (List ℕ)) → is_some old ≡ is_some new → Keeps old new → new ≡ old
kept None None same e = refl
kept None (Some new) same e = absurd cc
kept (Some old) None same e = absurd e
kept (Some old) (Some new) same e = ap Some e

consumed : (old new : Option (List ℕ)) (octets : List ℕ) → is_some old ≡ is_some new → Consumes old new octets → old ≡ before octets new
consumed None None octets same e = refl
consumed None (Some new) octets same e = absurd cc
consumed (Some old) None octets same e = absurd e
consumed (Some old) (Some new) octets same e = ap Some e

appended : (old new : Option (List ℕ)) (octets : List ℕ) → is_some old ≡ is_some new → Appends old new octets → new ≡ after old octets
appended None None octets same e = refl
appended None (Some new) octets same e = absurd cc
appended (Some old) None octets same e = absurd e
appended (Some old) (Some new) octets same e = ap Some e

pub read_kept : {E : Type 0} (r : Result ℕ E) (old new : Option (List ℕ)) (into : List ℕ) → is_some old ≡ is_some new → ReadConsumes old new r into → OnErr r (new ≡ old)
read_kept (Ok n) old new into same e = tt
read_kept (Err fault) old new into same e = kept old new same e

pub read_moved : {E : Type 0} (r : Result ℕ E) (old new : Option (List ℕ)) (into : List ℕ) → is_some old ≡ is_some new → ReadConsumes old new r into
    → IfOk r (λ n. old ≡ before (take n into) new)
read_moved (Ok n) old new into same e = consumed old new (take n into) same e.0
read_moved (Err fault) old new into same e = tt

pub write_kept : {E : Type 0} (r : Result ℕ E) (old new : Option (List ℕ)) (piece : List ℕ) → is_some old ≡ is_some new → WriteAppends old new r piece → OnErr r (new ≡ old)
write_kept (Ok n) old new piece same e = tt
write_kept (Err fault) old new piece same e = kept old new same e

pub write_appended : {E : Type 0} (r : Result ℕ E) (old new : Option (List ℕ)) (piece : List ℕ) → is_some old ≡ is_some new → WriteAppends old new r piece
    → IfOk r (λ n. new ≡ after old (take n piece))
write_appended (Ok n) old new piece same e = appended old new (take n piece) same e
write_appended (Err fault) old new piece same e = tt
