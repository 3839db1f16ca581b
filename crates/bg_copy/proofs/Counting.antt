-- How a window's counts follow ticks and commands.
use Rattle.std.proofs.Common.{◌≡◌, ℕ, zero, suc, ◌+◌, ◌-◌, ◌<◌, ◌≤◌, List, [], ◌∷◌, length, sum, take, slice_get, Option, refl, arith}
use Rattle.std.specs.Option.{unwrap_or}
use Rattle.std.proofs.Math.Seq.{take-nil}
use Rattle.std.proofs.lemmas.List.{length-take, take-take}
use Rattle.std.proofs.lemmas.List.Sums.{sum_by-cons}
use Rattle.std.proofs.lemmas.List.Elements.{All-cons, All-take}
use Rattle.circular_buffer.specs.Buffer.{Buffer, buffer}
use Rattle.bg_copy.specs.declared.moderation.TheConstants.{MOST_LIMIT}
use Rattle.bg_copy.specs.Moderation.{Moderation}
use Rattle.bg_copy.specs.Window.{AreAdded}
use Rattle.bg_copy.specs.Happened.{Happened, commands_in}
use Rattle.bg_copy.specs.Happened.Happened.{Ticked, Commanded}
use Rattle.bg_copy.specs.Copier.{AreAlike, Counts}

sum-cons : (x : ℕ) (xs : List ℕ) → sum (x ∷ xs) ≡ x + sum xs
sum-cons = sum_by-cons (λ x. x)

all_left : (n x : ℕ) → sum (take n (x ∷ [])) + unwrap_or (slice_get (x ∷ []) n) 0 ≡ x + 0
all_left zero x = omega arith
all_left (suc n) x = rw (take-nil n) (omega arith)

-- what leaves a full list at its end is what its sum loses
sum_left : (n x : ℕ) (xs : List ℕ) → length xs ≤ n →
    sum (take n (x ∷ xs)) + unwrap_or (slice_get (x ∷ xs) n) 0 ≡ x + sum xs
sum_left n x [] short = all_left n x
sum_left zero x (y ∷ ys) short = absurd (omega arith)
sum_left (suc n) x (y ∷ ys) short =
    let rest = sum_left n y ys (omega arith) in
    omega (arith, rest, sum-cons x (take n (y ∷ ys)), sum-cons y ys)

-- a tick leaves a full ring with its commands
module _ (limit current total : ℕ) (earlier after : Buffer ℕ) (out : Option ℕ) (oldest : ℕ)
    (added : AreAdded limit current earlier total)
    (pushed : after ≡ buffer (take earlier.capacity (current ∷ earlier.items)) earlier.capacity)
    (given : out ≡ slice_get (current ∷ earlier.items) earlier.capacity)
    (known : oldest ≡ unwrap_or out 0) where
  same_sum : sum (take earlier.capacity (current ∷ earlier.items)) + oldest ≡ current + sum earlier.items
  same_sum = rw (known, given) (sum_left earlier.capacity current earlier.items added.room)

  pub oldest_within : oldest ≤ total
  oldest_within = omega (arith, same_sum, added.sums)

  pub tick_added : AreAdded limit 0 after (total - oldest)
  tick_added =
      let few : ℕ → Type 0 = λ count. count ≤ MOST_LIMIT + 1 in
      let items = take earlier.capacity (current ∷ earlier.items) in
      let still : AreAdded limit 0 (buffer items earlier.capacity) (total - oldest) = record {
        room = omega (arith, length-take earlier.capacity (current ∷ earlier.items));
        ticks = added.ticks;
        most = added.most;
        now = omega arith;
        before = All-take few earlier.capacity (current ∷ earlier.items)
            (All-cons few current earlier.items added.now added.before);
        sums = omega (arith, same_sum, added.sums);
      } in
      rw pushed still

-- a command that is counted
counted : (limit current : ℕ) (earlier : List ℕ) (happened : List Happened) (ticks : ℕ) →
    AreAlike limit (sum (take ticks (current ∷ earlier))) (commands_in ticks happened) →
    AreAlike limit (sum (take ticks ((current + 1) ∷ earlier))) (commands_in ticks (Commanded ∷ happened))
counted limit current earlier happened zero alike = refl
counted limit current earlier happened (suc ticks) alike =
    omega (arith, alike, sum-cons current (take ticks earlier), sum-cons (current + 1) (take ticks earlier))

-- a command that isn't, since its tick has more than the limit
passed_over : (limit current : ℕ) (earlier : List ℕ) (happened : List Happened) (ticks : ℕ) → limit < current →
    AreAlike limit (sum (take ticks (current ∷ earlier))) (commands_in ticks happened) →
    AreAlike limit (sum (take ticks (current ∷ earlier))) (commands_in ticks (Commanded ∷ happened))
passed_over limit current earlier happened zero above alike = refl
passed_over limit current earlier happened (suc ticks) above alike =
    omega (arith, alike, sum-cons current (take ticks earlier))

-- a tick that passes
moved_on : (limit room : ℕ) (counts : List ℕ) (happened : List Happened) (ticks : ℕ) → ticks ≤ room + 1 →
    ((ticks : ℕ) → ticks ≤ room + 1 → AreAlike limit (sum (take ticks counts)) (commands_in ticks happened)) →
    AreAlike limit (sum (take ticks (0 ∷ take room counts))) (commands_in ticks (Ticked ∷ happened))
moved_on limit room counts happened zero inside alike = refl
moved_on limit room counts happened (suc ticks) inside alike =
    rw (sum-cons 0 (take ticks (take room counts)), take-take ticks room counts (omega arith))
    (omega (arith, alike ticks (omega arith)))

pub command_counted : (m : Moderation) (room limit current : ℕ) (earlier : List ℕ) (happened : List Happened) →
    Counts m (record { window = room + 1; limit = limit; counts = current ∷ earlier }) happened →
    Counts m (record { window = room + 1; limit = limit; counts = (current + 1) ∷ earlier }) (Commanded ∷ happened)
command_counted m room limit current earlier happened kept = record {
  window = kept.window;
  limit = kept.limit;
  counts = λ ticks inside. counted m.limit current earlier happened ticks (kept.counts ticks inside);
}

pub command_passed_over : (m : Moderation) (room limit current : ℕ) (earlier : List ℕ) (happened : List Happened) →
    limit < current →
    Counts m (record { window = room + 1; limit = limit; counts = current ∷ earlier }) happened →
    Counts m (record { window = room + 1; limit = limit; counts = current ∷ earlier }) (Commanded ∷ happened)
command_passed_over m room limit current earlier happened above kept = record {
  window = kept.window;
  limit = kept.limit;
  counts = λ ticks inside. passed_over m.limit current earlier happened ticks
      (rw (← kept.limit) above) (kept.counts ticks inside);
}

pub tick_counted : (m : Moderation) (room limit : ℕ) (counts : List ℕ) (happened : List Happened) →
    Counts m (record { window = room + 1; limit = limit; counts = counts }) happened →
    Counts m (record { window = room + 1; limit = limit; counts = 0 ∷ take room counts }) (Ticked ∷ happened)
tick_counted m room limit counts happened kept = record {
  window = kept.window;
  limit = kept.limit;
  counts = λ ticks inside. moved_on m.limit room counts happened ticks (omega (arith, kept.window, inside))
      (λ ticks inside. kept.counts ticks (omega (arith, kept.window, inside)));
}
