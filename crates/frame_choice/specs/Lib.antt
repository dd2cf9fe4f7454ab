-- Choices of passes, rivals, and what budgets hold.
pub mod Choice
-- What the headers of a choice hold, and what fits beside them.
pub mod Headers
-- Blocks by their numbers.
pub mod Blocks
pub mod NumberLaws
-- Blocks whose passes are coded on demand.
pub mod Demanded
-- What is kept of blocks at the present choice.
pub mod Present
-- The law of what the budgets of a frame hold.
pub mod HeldLaws
pub mod PriceLaws
-- The hulls of blocks.
pub mod Hulls
-- The steps that budgets refuse.
pub mod Refused
-- The bound of multipliers, and the gap.
pub mod Gap
-- What stands of a choice and its certificate.
pub mod Chosen
