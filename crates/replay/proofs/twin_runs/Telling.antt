-- What a sink holds after reports of two groups were told.
use Rattle.std.proofs.Common.{ℕ, List, [], ◌∷◌, ◌++◌, map, sym, ap, subst}
use Rattle.std.proofs.lemmas.List.{map-append}
use Rattle.lan_base.specs.declared.sink.Unwritten.{Unwritten}
use Rattle.twin_schedule.specs.Reports.{Report, AreTold}
use Rattle.replay.specs.Sinks.{Sunk, Wrote, Fails}
use Rattle.replay.proofs.Written.{wrote-more, fails-behind}
use Rattle.replay.specs.twin.Written.{text_of}

module _ {K : Type 0} (see : K → Sunk) where
  abbrev pub TookText : K → Report → K → Type 0
  TookText old report new = Wrote (text_of report ∷ []) (see old) (see new)

  abbrev pub BrokeText : K → Report → K → Unwritten → Type 0
  BrokeText old report new why = Fails (text_of report ∷ []) (see old) (see new) why

  pub texts-told : (a b : K) (xs : List Report) → AreTold TookText a xs b
      → Wrote (map text_of xs) (see a) (see b)
  texts-told a b [] told = sym (ap see told)
  texts-told a b (x ∷ later) told = wrote-more (text_of x ∷ []) (map text_of later) (see a)
      (see told.0) (see b) told.1 (texts-told told.0 b later told.2)

  pub texts-broken : (a b c : K) (xs : List Report) (x : Report) (behind : List Report)
      (why : Unwritten) → AreTold TookText a xs b → BrokeText b x c why
      → Fails (map text_of (xs ++ x ∷ behind)) (see a) (see c) why
  texts-broken a b c xs x behind why told f =
      subst (λ (l : List (List ℕ)). Fails l (see a) (see c) why)
      (sym (map-append text_of xs (x ∷ behind)))
      (fails-behind (map text_of xs) (text_of x) (map text_of behind) (see a) (see b) (see c) why
      (texts-told a b xs told) f)
