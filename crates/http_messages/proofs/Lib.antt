pub mod CutLemmas
pub mod LineLemmas
pub mod ValueLemmas
pub mod HeadLemmas
pub mod ReadLemmas
pub mod QueryLemmas
pub mod TargetLemmas
mod RouteWalks
mod RouteSegments
mod RouteNames
mod RouteLaw
pub mod FrontLemmas
pub mod ReadingLemmas
mod HeadVectors
mod StreamVectors
