-- What the private functions found and answered, as the definitions of reading have it: without
-- where it lies in memory.
use Rattle.std.specs.Prelude.{◌≡◌, Option, Some, None, Result, Ok, Err, IsOk}
use Rattle.mkpdu_codec.specs.declared.basic.Basic.{Basic}
use Rattle.mkpdu_codec.specs.declared.found.Found.{Found}
use Rattle.mkpdu_codec.specs.declared.reading.Borrowed.{Borrowed}
use Rattle.mkpdu_codec.specs.declared.reading.Parts.{Parts}
use Rattle.mkpdu_codec.specs.declared.read_error.ReadError.{ReadError}
use Rattle.mkpdu_codec.specs.declared.read_error.ReadError.TheVariants.{Refused, Memory}
use Rattle.mkpdu_codec.specs.declared.refusal.Refusal.{Refusal}
use Rattle.mkpdu_codec.specs.declared.set.ParameterSet.{ParameterSet}
use Rattle.mkpdu_codec.specs.declared.spelled.Spelled.{Spelled}
use Rattle.mkpdu_codec.specs.Frames.{Set}
use Rattle.mkpdu_codec.specs.Fields.{Basics}
use Rattle.mkpdu_codec.specs.Reading.{Inner, Gathered, announcement_of}

-- what a function of the code found, seen by view, is what reading finds
abbrev pub Finds : {X Y : Type 0} → (X → Y) → Option X → Option Y → Type 0
Finds view None read = read ≡ None
Finds view (Some x) read = read ≡ Some (view x)

-- what a function of the code answered, seen by view, is what reading gives
abbrev pub Gives : {X Y : Type 0} → (X → Y) → Result X Refusal → Result Y Refusal → Type 0
Gives view (Ok x) read = read ≡ Ok (view x)
Gives view (Err e) read = read ≡ Err e

-- the answer is what reading gives; where that is a value, memory may have run out
abbrev pub Answers : Result Spelled ReadError → Result Spelled Refusal → Type 0
Answers (Ok s) read = read ≡ Ok s
Answers (Err (Refused e)) read = read ≡ Err e
Answers (Err Memory) read = IsOk read

-- a set without where its body lies in memory
abbrev pub set_of : ParameterSet → Set
set_of s = record { kind = s.kind; second = s.second; flags = s.flags; body = s.body.now }

abbrev pub basics_of : Basic → Basics
basics_of b =
    record {
      priority = b.priority;
      server = b.server;
      sci = b.sci;
      mi = b.mi;
      mn = b.mn;
      agility = b.agility;
      ckn = b.ckn.now;
    }

abbrev pub inner_of : Parts → Inner
inner_of p = record { source = p.source; sets = p.sets.now; covered = p.covered; check = p.check }

abbrev pub seen : Option ParameterSet → Option Set
seen None = None
seen (Some s) = Some (set_of s)

abbrev pub gathered_of : Found → Gathered
gathered_of f =
    record {
      live = seen f.live;
      potential = seen f.potential;
      uses = seen f.uses;
      given = seen f.given;
      highs = seen f.highs;
    }

abbrev pub spelled_of : Borrowed → Spelled
spelled_of b =
    record {
      announcement = announcement_of b.parts.source (basics_of b.basic)
          (gathered_of b.found);
      covered = b.parts.covered;
      check = b.parts.check;
    }
