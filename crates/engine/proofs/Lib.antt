pub mod JudgeLaws
pub mod ValidateLaws
pub mod Preparations
