-- What a run of calls promises. A history says of each disk address what the calls so far have made of it; the answers have to fit it.
use Rattle.std.specs.Prelude.{◌≡◌, ℕ, Bool, true, cond, ◌⊎◌, List, [], ◌∷◌, ◌==◌, Ok, Err}
use Rattle.device.specs.Faults.{refusal_number}
use Rattle.history.specs.declared.calls.Call.{Call}
use Rattle.history.specs.declared.calls.Call.TheVariants.{WriteDirty, WriteClean, Read, Evict, Clean, Exists, Sync, PowerOn}
use Rattle.history.specs.Answers.{Answer}
use Rattle.history.specs.declared.calls.Served.TheVariants.{Done, Data, Marks}

-- An address is absent, or holds cached bytes, which may be dropped, or holds kept bytes, which may not.
pub data Slot : Type 0 where
  absent : Slot
  cached : List ℕ → Slot
  kept : List ℕ → Slot

abbrev pub History : Type 0
History = ℕ → Slot

-- a form leaves every address absent
abbrev pub at_first : History
at_first a = absent

abbrev pub with_slot : History → ℕ → Slot → History
with_slot h a slot b = cond (b == a) slot (h b)

abbrev pub no_longer_kept : Slot → Slot
no_longer_kept absent = absent
no_longer_kept (cached bytes) = cached bytes
no_longer_kept (kept bytes) = cached bytes

-- the history after a call that counts
abbrev pub step : History → Call → History
step h (WriteDirty a bytes) = with_slot h a.0 (kept bytes.now)
step h (WriteClean a bytes) = with_slot h a.0 (cached bytes.now)
step h (Evict a) = with_slot h a.0 absent
step h (Clean a) = with_slot h a.0 (no_longer_kept (h a.0))
step h (Read a len) = h
step h (Exists a len) = h
step h Sync = h
step h PowerOn = h

-- an answer's number, 0 if the call was served
abbrev pub number_of : Answer → ℕ
number_of (Ok Done) = 0
number_of (Ok (Data page)) = 0
number_of (Ok (Marks page len)) = 0
number_of (Err f) = refusal_number f.refusal

-- no power: the call was refused with number 1
abbrev pub dark : Answer → Bool
dark x = number_of x == 1

abbrev pub served : Answer → Bool
served x = number_of x == 0

-- What a read may answer, apart from number 1: kept bytes are read back; cached ones are read back, or are absent (8); absent is absent. A buffer of a
-- wrong size is refused with 2, whatever is there.
abbrev pub ReadsBack : Slot → Answer → Type 0
ReadsBack slot (Ok Done) = ⊥
ReadsBack slot (Ok (Marks page len)) = ⊥
ReadsBack absent (Ok (Data page)) = ⊥
ReadsBack (cached bytes) (Ok (Data page)) = page ≡ bytes
ReadsBack (kept bytes) (Ok (Data page)) = page ≡ bytes
ReadsBack absent (Err f) = (refusal_number f.refusal ≡ 8) ⊎ (refusal_number f.refusal ≡ 2)
ReadsBack (cached bytes) (Err f) = (refusal_number f.refusal ≡ 8) ⊎ (refusal_number f.refusal ≡ 2)
ReadsBack (kept bytes) (Err f) = refusal_number f.refusal ≡ 2

-- what an answer other than number 1 says of the history; a power-on is never refused otherwise
abbrev pub Says : History → Call → Answer → Type 0
Says h (Read a len) x = ReadsBack (h a.0) x
Says h PowerOn x = served x ≡ true
Says h (WriteDirty a bytes) x = Unit {0}
Says h (WriteClean a bytes) x = Unit {0}
Says h (Evict a) x = Unit {0}
Says h (Clean a) x = Unit {0}
Says h (Exists a len) x = Unit {0}
Says h Sync x = Unit {0}

-- On with a history; or off, after a call in which power failed, with the history without that call and the one with it.
pub data Phase : Type 0 where
  on : History → Phase
  off : History → History → Phase

abbrev pub IsPowerOn : Call → Type 0
IsPowerOn PowerOn = Unit {0}
IsPowerOn (Read a len) = ⊥
IsPowerOn (WriteDirty a bytes) = ⊥
IsPowerOn (WriteClean a bytes) = ⊥
IsPowerOn (Evict a) = ⊥
IsPowerOn (Clean a) = ⊥
IsPowerOn (Exists a len) = ⊥
IsPowerOn Sync = ⊥

-- One call. While on, a served call counts, and a refused one does not; the first one refused with number 1 counts wholly or not at all. While off, all is
-- refused with number 1, until a power-on is served: that settles which, for good.
abbrev pub Moves : Phase → Call → Answer → Phase → Type 0
Moves (on h) c x next = cond (dark x) (next ≡ off h (step h c)) (Says h c x × (next ≡ on (cond (served x) (step h c) h)))
Moves (off h h') c x next = cond (dark x) (next ≡ off h h') (IsPowerOn c × (served x ≡ true) × ((next ≡ on h) ⊎ (next ≡ on h')))

-- a run of calls with their answers, from one phase to another
abbrev pub Runs : Phase → List Call → List Answer → Phase → Type 0
Runs p [] [] q = q ≡ p
Runs p [] (x ∷ xs) q = ⊥
Runs p (c ∷ cs) [] q = ⊥
Runs p (c ∷ cs) (x ∷ xs) q = (next : Phase) × Moves p c x next × Runs next cs xs q

-- The answers fit the history that begins with a form.
abbrev pub Fits : List Call → List Answer → Type 0
Fits cs xs = (q : Phase) × Runs (on at_first) cs xs q
