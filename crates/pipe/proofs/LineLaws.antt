-- The packets of a pipe in their order. Assumes nothing.
use Rattle.std.proofs.Common.{◌≡◌, ℕ, ◌*◌, ◌<◌, ◌≤◌, ◌⊎◌, List, [], ◌∷◌, ◌++◌, length, get_or, set, Some, None, sym, ap, subst, inl, inr, arith}
use Rattle.std.specs.List.{AllByRecursion as Each}
use Rattle.std.proofs.ByRecursion.{All-push}
use Rattle.flows.specs.Flow.{FlowModel}
use Rattle.promises.specs.Promises.{den}
use Rattle.port.specs.Port.{Level, full, flow_at}
use Rattle.pipe.specs.Pipe.{Packet, Passed, HasCome, arrived, lack_with}
use Rattle.pipe.specs.Laws.{OneOf, NoLonger}

-- what holds of one of these, in weaker words
pub one_weaker : (P Q : Passed → Type 0) (gs : List Passed) → ((g : Passed) → P g → Q g) → OneOf P gs → OneOf Q gs
one_weaker P Q [] weaker one = one
one_weaker P Q (g ∷ gs) weaker (inl here) = inl (weaker g here)
one_weaker P Q (g ∷ gs) weaker (inr there) = inr (one_weaker P Q gs weaker there)

-- what follows from one of these, and holds of all
pub one_all : (P Q : Passed → Type 0) (C : Type 0) (gs : List Passed) → ((g : Passed) → P g → Q g → C) → Each P gs → OneOf Q gs → C
one_all P Q C [] then all one = absurd one
one_all P Q C (g ∷ gs) then all (inl here) = then g all.0 here
one_all P Q C (g ∷ gs) then all (inr there) = one_all P Q C gs then all.1 there

-- the level of its flow that a packet carries
abbrev pub carried : Packet → Level
carried w = record { deficit = w.lack; last = w.sent }

-- a packet carries what its flow's burst lacked with it, by the levels before it
pub record Carries (fs : List FlowModel) (ls : List Level) (w : Packet) : Type 0 where
  pub known : w.flow < length fs
  pub since : (get_or ls w.flow full).last ≤ w.sent
  pub is : w.lack ≡ lack_with fs ls w.sent w.flow w.len
  pub regular : w.lack ≤ den * (flow_at fs w.flow).burst

-- the packets lead from these levels to those
abbrev pub Chain : List FlowModel → List Level → List Packet → List Level → Type 0
Chain fs ls [] end = ls ≡ end
Chain fs ls (w ∷ ws) end = Carries fs ls w × Chain fs (set ls w.flow (carried w)) ws end

pub chain_push : (fs : List FlowModel) (ls : List Level) (ws : List Packet) (end : List Level) (w : Packet) →
    Chain fs ls ws end → Carries fs end w → Chain fs ls (ws ++ w ∷ []) (set end w.flow (carried w))
chain_push fs ls [] end w chain carries =
    (subst (λ x. Carries fs x w) (sym chain) carries, ap (λ x. set x w.flow (carried w)) chain)
chain_push fs ls (v ∷ ws) end w chain carries = (chain.0, chain_push fs (set ls v.flow (carried v)) ws end w chain.1 carries)

pub chain-comes : (fs : List FlowModel) (ls : List Level) (front : List Packet) (end : List Level) (t : ℕ) (w : Packet) (back : List Packet) →
    Chain fs ls (front ++ w ∷ back) end → Chain fs ls (front ++ arrived t w ∷ back) end
chain-comes fs ls [] end t w back chain =
    let c = chain.0 in
    (record { known = c.known; since = c.since; is = c.is; regular = c.regular }, chain.1)
chain-comes fs ls (v ∷ front) end t w back chain = (chain.0, chain-comes fs (set ls v.flow (carried v)) front end t w back chain.1)

-- the packets were sent in their order, between two ticks
abbrev pub Rising : ℕ → List Packet → ℕ → Type 0
Rising low [] high = low ≤ high
Rising low (w ∷ ws) high = (low ≤ w.sent) × Rising w.sent ws high

pub rising_from : (low lower : ℕ) (ws : List Packet) (high : ℕ) → lower ≤ low → Rising low ws high → Rising lower ws high
rising_from low lower [] high less rising = omega arith
rising_from low lower (w ∷ ws) high less rising = (omega (arith, rising.0), rising.1)

pub rising_to : (low : ℕ) (ws : List Packet) (high higher : ℕ) → high ≤ higher → Rising low ws high → Rising low ws higher
rising_to low [] high higher more rising = omega arith
rising_to low (w ∷ ws) high higher more rising = (rising.0, rising_to w.sent ws high higher more rising.1)

pub rising_ends : (low : ℕ) (ws : List Packet) (high : ℕ) → Rising low ws high → low ≤ high
rising_ends low [] high rising = rising
rising_ends low (w ∷ ws) high rising = omega (arith, rising.0, rising_ends w.sent ws high rising.1)

pub rising_push : (low : ℕ) (ws : List Packet) (w : Packet) → Rising low ws w.sent → Rising low (ws ++ w ∷ []) w.sent
rising_push low [] w rising = (rising, omega arith)
rising_push low (v ∷ ws) w rising = (rising.0, rising_push v.sent ws w rising.1)

pub rising_comes : (low : ℕ) (front : List Packet) (t : ℕ) (w : Packet) (back : List Packet) (high : ℕ) →
    Rising low (front ++ w ∷ back) high → Rising low (front ++ arrived t w ∷ back) high
rising_comes low [] t w back high rising = (rising.0, rising.1)
rising_comes low (v ∷ front) t w back high rising = (rising.0, rising_comes v.sent front t w back high rising.1)

-- a packet that has not come
abbrev pub Away : Packet → Type 0
Away w = w.came ≡ None

-- those that have come stand in front
abbrev pub Front : List Packet → Type 0
Front [] = Unit {0}
Front (w ∷ ws) = (Away w → Each Away ws) × Front ws

pub front_push : (ws : List Packet) (w : Packet) → Away w → Front ws → Front (ws ++ w ∷ [])
front_push [] w away front = ((λ _. tt), tt)
front_push (v ∷ ws) w away front = ((λ none. All-push Away ws w (front.0 none) away), front_push ws w away front.1)

pub front_comes : (before : List Packet) (t : ℕ) (w : Packet) (back : List Packet) → Each HasCome before →
    Front (before ++ w ∷ back) → Front (before ++ arrived t w ∷ back)
front_comes [] t w back come front = ((λ none. cc), front.1)
front_comes (v ∷ before) t w back come front =
    let is = come.0.1 in
    ((λ none. cc), front_comes before t w back come.1 front.1)

-- The first, if it has come, came only now, or some packet that has passed took as long to come as the first by now.
abbrev pub Due : ℕ → List Passed → List Packet → Type 0
Due now gs [] = Unit {0}
Due now gs (w ∷ ws) = (t : ℕ) → w.came ≡ Some t → (now ≤ t) ⊎ OneOf (NoLonger now w.sent) gs

pub due_push : (now : ℕ) (gs : List Passed) (ws : List Packet) (w : Packet) → Away w → Due now gs ws → Due now gs (ws ++ w ∷ [])
due_push now gs [] w away due = λ t come. cc
due_push now gs (v ∷ ws) w away due = due

pub due-comes : (now : ℕ) (gs : List Passed) (front : List Packet) (w : Packet) (back : List Packet) →
    Due now gs (front ++ w ∷ back) → Due now gs (front ++ arrived now w ∷ back)
due-comes now gs [] w back due = λ t come. let same : now ≡ t = cc in inl (omega arith)
due-comes now gs (v ∷ front) w back due = due

-- the next becomes the first where one took as long as the first by now
pub due-next : (now low : ℕ) (gs : List Passed) (ws : List Packet) (high : ℕ) → Rising low ws high → OneOf (NoLonger now low) gs → Due now gs ws
due-next now low gs [] high rising one = tt
due-next now low gs (w ∷ ws) high rising one =
    λ t come. inr (one_weaker (NoLonger now low) (NoLonger now w.sent) gs (λ m h. omega (arith, h, rising.0)) one)
