-- What one pixel more adds to the planes of a frame.
use Rattle.std.proofs.Common.{ℕ, zero, suc, ◌≡◌, ◌+◌, ◌*◌, ◌≤◌, ◌/◌, ◌%◌, List, [], ◌∷◌, ◌++◌}
use Rattle.std.proofs.Common.{arith, ap, ◌∙◌, sym, subst, refl, All, length}
use Rattle.std.proofs.lemmas.List.Elements.{All-nil, All-push}
use Rattle.std.proofs.lemmas.List.FromFn.{length-map-range_with_len, map-range_with_len_more}
use Rattle.pnm_frames.specs.Picture.{IsSample}
use Rattle.demo_frames.specs.Made.{AreMade}
use Rattle.demo_frames.specs.declared.frame.Planes.{Planes}
use Rattle.demo_frames.specs.Demo.{demo_sample, demo_samples, mixed, next_state, ramp, state_after}

-- the states after one, two and three samples more
pub state_more : (number k n : ℕ) → n ≡ k + 1 →
    state_after number n ≡ next_state (state_after number k)
unfolding state_after
state_more number k zero e = absurd (omega arith)
state_more number k (suc n) e =
    let one : n ≡ k = omega arith in
    ap (λ j. next_state (state_after number j)) one

-- the samples of one place more
pub samples_more : (number width component place sample state : ℕ) (old new : List ℕ) →
    old ≡ demo_samples number width component place →
    new ≡ old ++ sample ∷ [] →
    sample ≡ mixed (ramp component (place % width) (place / width)) state →
    state ≡ state_after number (3 * place + component + 1) →
    new ≡ demo_samples number width component (place + 1)
unfolding demo_sample
samples_more number width component place sample state old new before pushed made is =
    let here : sample ≡ demo_sample number width component place =
    made ∙ ap (mixed (ramp component (place % width) (place / width))) is in
    let more : demo_samples number width component (place + 1)
    ≡ demo_samples number width component place ++ demo_sample number width component place ∷ [] =
    map-range_with_len_more (demo_sample number width component) 0 place place (omega arith) in
    pushed ∙ ap (λ s. old ++ s ∷ []) here
    ∙ ap (λ o. o ++ demo_sample number width component place ∷ []) before ∙ sym more

all_more : (old new : List ℕ) (a : ℕ) → All IsSample old → a ≤ 4095 → new ≡ old ++ a ∷ [] →
    All IsSample new
all_more old new a are is e = subst (All IsSample) (sym e) (All-push IsSample old a are is)

-- the planes of one place more
pub pixel_more : (number width place a b c : ℕ) (s t : Planes) → AreMade number width place s →
    t.x.items ≡ s.x.items ++ a ∷ [] → t.y.items ≡ s.y.items ++ b ∷ [] →
    t.z.items ≡ s.z.items ++ c ∷ [] →
    a ≡ mixed (ramp 0 (place % width) (place / width)) (next_state s.state) →
    b ≡ mixed (ramp 1 (place % width) (place / width)) (next_state (next_state s.state)) →
    c ≡ mixed (ramp 2 (place % width) (place / width))
    (next_state (next_state (next_state s.state))) →
    a ≤ 4095 → b ≤ 4095 → c ≤ 4095 →
    t.state ≡ next_state (next_state (next_state s.state)) → AreMade number width (place + 1) t
pixel_more number width place a b c s t made px py pz ea eb ec ra rb rc es =
    let one : state_after number (3 * place + 0 + 1) ≡ next_state (state_after number (3 * place)) =
    state_more number (3 * place) (3 * place + 0 + 1) (omega arith) in
    let two : state_after number (3 * place + 1 + 1)
    ≡ next_state (state_after number (3 * place + 0 + 1)) =
    state_more number (3 * place + 0 + 1) (3 * place + 1 + 1) (omega arith) in
    let three : state_after number (3 * place + 2 + 1)
    ≡ next_state (state_after number (3 * place + 1 + 1)) =
    state_more number (3 * place + 1 + 1) (3 * place + 2 + 1) (omega arith) in
    let first : next_state s.state ≡ state_after number (3 * place + 0 + 1) =
    ap next_state made.state ∙ sym one in
    let second : next_state (next_state s.state) ≡ state_after number (3 * place + 1 + 1) =
    ap next_state first ∙ sym two in
    let third : next_state (next_state (next_state s.state))
    ≡ state_after number (3 * place + 2 + 1) = ap next_state second ∙ sym three in
    let at : 3 * place + 2 + 1 ≡ 3 * (place + 1) = omega arith in
    record {
      x = samples_more number width 0 place a (next_state s.state) s.x.items t.x.items made.x px ea
          first;
      y = samples_more number width 1 place b (next_state (next_state s.state)) s.y.items t.y.items
          made.y py eb second;
      z = samples_more number width 2 place c (next_state (next_state (next_state s.state)))
          s.z.items t.z.items made.z pz ec third;
      x_range = all_more s.x.items t.x.items a made.x_range ra px;
      y_range = all_more s.y.items t.y.items b made.y_range rb py;
      z_range = all_more s.z.items t.z.items c made.z_range rc pz;
      state = es ∙ third ∙ ap (state_after number) at;
    }

-- no planes yet
none_made : (number width place : ℕ) (s : Planes) → place ≡ 0 → s.x.items ≡ [] → s.y.items ≡ [] →
    s.z.items ≡ [] → s.state ≡ number → AreMade number width place s
unfolding state_after
none_made number width zero s e x y z state = record {
  x = x;
  y = y;
  z = z;
  x_range = subst (All IsSample) (sym x) (All-nil IsSample);
  y_range = subst (All IsSample) (sym y) (All-nil IsSample);
  z_range = subst (All IsSample) (sym z) (All-nil IsSample);
  state = state;
}
none_made number width (suc place) s e x y z state = absurd (omega arith)

pub none : (number width : ℕ) (s : Planes) → s.x.items ≡ [] → s.y.items ≡ [] → s.z.items ≡ [] →
    s.state ≡ number → AreMade number width 0 s
none number width s x y z state = none_made number width 0 s refl x y z state

-- each plane has a sample for each place
pub made_length : (number width component place : ℕ) (items : List ℕ) →
    items ≡ demo_samples number width component place → length items ≡ place
made_length number width component place items e =
    ap length e ∙ length-map-range_with_len (demo_sample number width component) 0 place
