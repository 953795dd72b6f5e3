-- definitions, which a reader must believe
pub mod Clock
pub mod Decay
pub mod Shares
pub mod Commitments
pub mod Holdings
pub mod Accounts
pub mod Sites
pub mod Greatest
pub mod Records
pub mod Levels
-- laws that the definition of a brought record rests on: it holds no commitment above the whole
pub mod Bounds
-- laws by which the measures prove their own, and the laws below those
pub mod LevelLaws
pub mod RecordLaws
pub mod GreatestLaws
pub mod StandingLaws
pub mod ShareLaws
pub mod CommitmentLaws
pub mod DecayLaws
