-- SPDX-License-Identifier: MPL-2.0
pub mod Rows
pub mod Bytes
pub mod Same
pub mod Courses
pub mod Runs
pub mod Parts
pub mod Chunks
