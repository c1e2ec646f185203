pub mod LeastLaws
pub mod WalkLaws
