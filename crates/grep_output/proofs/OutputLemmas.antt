-- Texts that are written one after another, and known bytes that grow by them.
use Rattle.std.proofs.Common.{◌≡◌, ◌≢◌, ℕ, ◌+◌, ◌-◌, ◌^◌, ◌<◌, ◌≤◌, List, [], ◌∷◌, ◌++◌, length, arith, refl, sym, ap}
use Rattle.std.proofs.Common.{◌∙◌, append_assoc, subst, take, drop}
use Rattle.std.specs.Prelude.{Option, Some, None, Result, Ok, Err}
use Rattle.std.specs.Io.KnownBytes.{Appends}
use Rattle.std.specs.IoError.{error_kind}
use Rattle.std.specs.Result.{IsErrAnd}
use Rattle.std.specs.declared.io.Error.{Error}
use Rattle.std.specs.declared.io.ErrorKind.TheVariants.{Interrupted}
use Rattle.std.proofs.lemmas.List.{append-nil, length-append, length-take-le, take-append-drop}
use Rattle.std.proofs.lemmas.List.Elements.{All-append, All-cons, All-nil}
use Rattle.grep_output.specs.Outputs.{OutputCall, writes, taken_by, taken_by_all, IsInterrupted, GoesOn}
use Rattle.grep_output.specs.Outputs.{EndsIn, AreCalled}
use Rattle.grep_output.specs.Outputs.{WritesAll, Writes, Repeats}

-- nothing more
Appends-none : (known : Option (List ℕ)) → Appends known known []
Appends-none None = tt
Appends-none (Some xs) = sym (append-nil xs)

-- one text after another
pub Appends-more : (a b c : Option (List ℕ)) (xs ys : List ℕ) → Appends a b xs → Appends b c ys → Appends a c (xs ++ ys)
Appends-more None b c xs ys first later = tt
Appends-more (Some all) None c xs ys first later = absurd first
Appends-more (Some all) (Some more) None xs ys first later = absurd later
Appends-more (Some all) (Some more) (Some end) xs ys first later = later
    ∙ (ap (λ zs. zs ++ ys) first ∙ append_assoc all xs ys)

-- some calls, and then others
taken-more : (first later : List OutputCall) → taken_by_all (first ++ later) ≡ taken_by_all first ++ taken_by_all later
taken-more [] later = refl
taken-more (call ∷ first) later = ap (λ xs. taken_by call ++ xs) (taken-more first later)
    ∙ sym (append_assoc (taken_by call) (taken_by_all first) (taken_by_all later))

-- there are as many in more calls
at-least : {n : ℕ} (first later : List OutputCall) → n ≤ length later → n ≤ length (first ++ later)
at-least {n} first later enough = subst (λ m. n ≤ m) (sym (length-append first later)) (omega arith)

module _ {W : Type 0} (write_step : W → OutputCall → W → Type 0) where
  AreCalled-more : (old mid new : W) (first later : List OutputCall) → AreCalled write_step old first mid
      → AreCalled write_step mid later new
      → AreCalled write_step old (first ++ later) new
  AreCalled-more old mid new [] later same made = subst (λ s. AreCalled write_step s later new) (sym same) made
  AreCalled-more old mid new (call ∷ first) later (next, step, made) rest =
      (next, step, AreCalled-more next mid new first later made rest)

  -- nothing is written
  pub Writes-none : (writer : W) → WritesAll write_step writer [] writer
  Writes-none writer = record { calls = []; made = refl; go_on = All-nil GoesOn; taken = refl }

  -- a text, and then another one
  abbrev all-more : (old mid new : W) (xs ys : List ℕ) → WritesAll write_step old xs mid
      → WritesAll write_step mid ys new
      → WritesAll write_step old (xs ++ ys) new
  all-more old mid new xs ys first later = record {
    calls = first.calls ++ later.calls;
    made = AreCalled-more old mid new first.calls later.calls first.made later.made;
    go_on = All-append GoesOn first.calls later.calls first.go_on later.go_on;
    taken = taken-more first.calls later.calls
        ∙ (ap (λ zs. zs ++ taken_by_all later.calls) first.taken ∙ ap (λ zs. xs ++ zs) later.taken);
  }

  -- some bytes, and then those of one write
  abbrev all-next : (old mid new : W) (xs : List ℕ) (call : OutputCall) → WritesAll write_step old xs mid → GoesOn call
      → write_step mid call new → WritesAll write_step old (xs ++ taken_by call) new
  all-next old mid new xs call first goes step = all-more old mid new xs (taken_by call) first
      (record {
        calls = call ∷ [];
        made = (new, step, refl);
        go_on = All-cons GoesOn call [] goes (All-nil GoesOn);
        taken = append-nil (taken_by call);
      })

  pub Writes-more : (old mid new : W) (xs ys : List ℕ) (result : Result (Unit {0}) Error)
      → Writes write_step old xs (Ok tt) mid
      → Writes write_step mid ys result new → Writes write_step old (xs ++ ys) result new
  Writes-more old mid new xs ys (Ok u) first later = all-more old mid new xs ys first later
  Writes-more old mid new xs ys (Err e) first later = record {
    gives_up = λ is. at-least first.calls later.written.calls (later.gives_up is);
    part = xs ++ later.part;
    begins = (later.begins.0, ap (λ zs. xs ++ zs) later.begins.1 ∙ sym (append_assoc xs later.part later.begins.0));
    mid = later.mid;
    written = all-more old mid later.mid xs later.part first later.written;
    call = later.call;
    last = later.last;
    ends_in = later.ends_in;
  }

  -- a text that isn't written whole, and one after it that isn't begun
  pub Writes-cut : (old new : W) (xs ys : List ℕ) (error : Error) → Writes write_step old xs (Err error) new
      → Writes write_step old (xs ++ ys) (Err error) new
  Writes-cut old new xs ys error fails = record {
    part = fails.part;
    begins = (fails.begins.0 ++ ys, ap (λ zs. zs ++ ys) fails.begins.1 ∙ append_assoc fails.part fails.begins.0 ys);
    mid = fails.mid;
    written = fails.written;
    call = fails.call;
    last = fails.last;
    ends_in = fails.ends_in;
    gives_up = fails.gives_up;
  }

  -- some first bytes of a buffer are written, and these are left
  pub record IsWriting (old now : W) (buffer left : List ℕ) : Type 0 where
    pub bytes : List ℕ
    pub split : buffer ≡ bytes ++ left
    pub written : WritesAll write_step old bytes now

  -- up to the last try of a write
  abbrev tried : (old mid last : W) (xs : List ℕ) → WritesAll write_step old xs mid → WritesAll write_step mid [] last
      → WritesAll write_step old xs last
  tried old mid last xs first later = record {
    calls = first.calls ++ later.calls;
    made = AreCalled-more old mid last first.calls later.calls first.made later.made;
    go_on = All-append GoesOn first.calls later.calls first.go_on later.go_on;
    taken = taken-more first.calls later.calls
        ∙ (ap (λ zs. zs ++ taken_by_all later.calls) first.taken ∙ (ap (λ zs. xs ++ zs) later.taken ∙ append-nil xs));
  }

  -- a write took some of them
  pub writing-more : (old mid new : W) (buffer left : List ℕ) (count : ℕ) → IsWriting old mid buffer left
      → count ≢ 0 → count ≤ length left → Repeats write_step mid (writes left (Ok count)) new
      → IsWriting old new buffer (drop count left)
  writing-more old mid new buffer left count writing some within repeats = record {
    bytes = writing.bytes ++ take count left;
    split = writing.split ∙ (ap (λ xs. writing.bytes ++ xs) (sym (take-append-drop count left))
        ∙ sym (append_assoc writing.bytes (take count left) (drop count left)));
    written = all-next old repeats.mid new writing.bytes (writes left (Ok count))
        (tried old mid repeats.mid writing.bytes writing.written repeats.tries)
        (subst (λ n. 0 < n) (sym (length-take-le count left within)) (omega arith)) repeats.last;
  }

  -- a write failed
  pub writing-fails : (old mid new : W) (buffer left : List ℕ) (error : Error) (call : OutputCall)
      → IsWriting old mid buffer left
      → Repeats write_step mid call new → EndsIn error call → Writes write_step old buffer (Err error) new
  writing-fails old mid new buffer left error call writing repeats ends = record {
    part = writing.bytes;
    begins = (left, writing.split);
    mid = repeats.mid;
    written = tried old mid repeats.mid writing.bytes writing.written repeats.tries;
    call = call;
    last = repeats.last;
    ends_in = ends;
    gives_up = λ is. at-least writing.written.calls repeats.tries.calls (repeats.gives_up is);
  }

  -- a write after so many that were interrupted
  pub record IsTrying (count : ℕ) (old : W) (call : OutputCall) (new : W) : Type 0 where
    pub mid : W
    pub tries : WritesAll write_step old [] mid
    pub last : write_step mid call new
    pub counted : count ≤ length tries.calls

  -- the first try
  pub trying-none : (old new : W) (call : OutputCall) → write_step old call new → IsTrying 0 old call new
  trying-none old new call step = record { mid = old; tries = Writes-none old; last = step; counted = omega arith }

  -- a write was interrupted, and is made again
  pub trying-more : (count : ℕ) (old now new : W) (written : Result ℕ Error) (buffer : List ℕ) (call : OutputCall)
      → IsErrAnd written (λ e. error_kind e ≡ Interrupted) → IsTrying count old (writes buffer written) now
      → write_step now call new → IsTrying (count + 1) old call new
  trying-more count old now new (Ok n) buffer call never trying step = absurd never
  trying-more count old now new (Err e) buffer call interrupted trying step = record {
    mid = now;
    tries = all-next old trying.mid now [] (writes buffer (Err e)) trying.tries interrupted trying.last;
    last = step;
    counted = subst (λ n. count + 1 ≤ n) (sym (length-append trying.tries.calls (writes buffer (Err e) ∷ [])))
        (let counted = trying.counted in omega arith);
  }

  -- it wasn't interrupted, or was given up
  pub repeated : (count : ℕ) (old new : W) (call : OutputCall) → IsTrying count old call new
      → (IsInterrupted call → 2 ^ 64 - 1 ≤ count) → Repeats write_step old call new
  repeated count old new call trying ends = record {
    mid = trying.mid;
    tries = trying.tries;
    last = trying.last;
    gives_up = λ is. let all = ends is in let counted = trying.counted in omega arith;
  }

  -- what the output holds grows by a text that is written
  calls-append : (contents : W → Option (List ℕ))
      → ((s t : W) (call : OutputCall) → write_step s call t → Appends (contents s) (contents t) (taken_by call))
      → (old new : W) (calls : List OutputCall) → AreCalled write_step old calls new
      → Appends (contents old) (contents new) (taken_by_all calls)
  calls-append contents grows old new [] same = subst (λ s. Appends (contents old) (contents s) []) same
      (Appends-none (contents old))
  calls-append contents grows old new (call ∷ calls) (mid, step, made) =
      Appends-more (contents old) (contents mid) (contents new) (taken_by call) (taken_by_all calls)
      (grows old mid call step)
      (calls-append contents grows mid new calls made)

  pub written-appends : (contents : W → Option (List ℕ))
      → ((s t : W) (call : OutputCall) → write_step s call t → Appends (contents s) (contents t) (taken_by call))
      → (old new : W) (text : List ℕ) → WritesAll write_step old text new → Appends (contents old) (contents new) text
  written-appends contents grows old new text written = subst (λ xs. Appends (contents old) (contents new) xs)
      written.taken
      (calls-append contents grows old new written.calls written.made)
