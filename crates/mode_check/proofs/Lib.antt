pub mod Alignment
pub mod Firsts
pub mod Forms
pub mod GoalPlaces
pub mod HeadBreaches
pub mod Sightings
pub mod Spines
